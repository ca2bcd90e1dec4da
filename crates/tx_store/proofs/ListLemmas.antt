-- Tokens that count as the same are equal, and so are lists of them. What a store holds after a list was shared.
use Rattle.std.proofs.Common.{◌≡◌, ◌≢◌, ℕ, ◌+◌, Bool, true, false, ◌&&◌, eqb, List, [], slice_get, position, Option, None, Some, refl, sym, ◌∙◌, ap, subst}
use denote.Enum.Bare.{sameb, same_true, true_same}
use Rattle.std.specs.Bool.{Decides}
use Rattle.std.proofs.lemmas.Bool.{eqb-true, eq-eqb}
use Rattle.std.proofs.lemmas.Option.{slice_get-get_or}
use Rattle.std.proofs.lemmas.List.Quantifiers.{position-Some}
use Rattle.std.proofs.lemmas.Slice.Eq.{slice_eq-Decides}
use Rattle.tx_model.specs.declared.category.Cat.{Cat}
use Rattle.tx_model.specs.contracts.category.Cat.{the_type}
use Rattle.tx_tok.specs.contracts.tok.TokPartialEq.TheImpl as tokens
use Rattle.tx_tok.specs.declared.tok.Tok.{Tok}
use Rattle.tx_tok.specs.declared.tok.Tok.TheVariants as tok
use Rattle.tx_format.specs.Formats.{same_tokens}
use Rattle.tx_format.specs.declared.state.Engineless.{Engineless}
use Rattle.tx_store.specs.declared.slots.Slot.{Slot}
use Rattle.tx_store.specs.Sessions.{Holding, Session}
use Rattle.tx_store.specs.Steps.{Same, SameNames, SameRow, Holds, count_of}
use Rattle.tx_store.specs.Plain.{Plain, held_at, total, session_of, SlotHolds}
use Rattle.tx_store.proofs.NameLemmas.{no-place}

abbrev same : Tok → Tok → Bool
same = tokens.ghosts.eq

both : (a b : Bool) → (a && b) ≡ true → (a ≡ true) × (b ≡ true)
both true b e = (refl, e)
both false b e = cc

and-true : (a b : Bool) → a ≡ true → b ≡ true → (a && b) ≡ true
and-true a b e f = rw (e, f) refl

same-category : (c d : Cat) → sameb the_type c d ≡ true → c ≡ d
same-category c d h = same_true the_type tt c d h

same-equal : (a b : Tok) → same a b ≡ true → a ≡ b
same-equal (tok.Char c b) (tok.Char d e) h =
    let parts = both (sameb the_type c d) (eqb b e) h in
    ap (λ x. tok.Char x b) (same-category c d parts.0) ∙ ap (λ y. tok.Char d y) (eqb-true b e parts.1)
same-equal (tok.Char c b) (tok.Name m) h = cc
same-equal (tok.Char c b) (tok.Active m) h = cc
same-equal (tok.Char c b) (tok.Param m) h = cc
same-equal (tok.Char c b) tok.Stop h = cc
same-equal (tok.Name n) (tok.Name m) h = ap (λ x. tok.Name x) (eqb-true n m h)
same-equal (tok.Name n) (tok.Char c b) h = cc
same-equal (tok.Name n) (tok.Active m) h = cc
same-equal (tok.Name n) (tok.Param m) h = cc
same-equal (tok.Name n) tok.Stop h = cc
same-equal (tok.Active n) (tok.Active m) h = ap (λ x. tok.Active x) (eqb-true n m h)
same-equal (tok.Active n) (tok.Char c b) h = cc
same-equal (tok.Active n) (tok.Name m) h = cc
same-equal (tok.Active n) (tok.Param m) h = cc
same-equal (tok.Active n) tok.Stop h = cc
same-equal (tok.Param n) (tok.Param m) h = ap (λ x. tok.Param x) (eqb-true n m h)
same-equal (tok.Param n) (tok.Char c b) h = cc
same-equal (tok.Param n) (tok.Name m) h = cc
same-equal (tok.Param n) (tok.Active m) h = cc
same-equal (tok.Param n) tok.Stop h = cc
same-equal tok.Stop tok.Stop h = refl
same-equal tok.Stop (tok.Char c b) h = cc
same-equal tok.Stop (tok.Name m) h = cc
same-equal tok.Stop (tok.Active m) h = cc
same-equal tok.Stop (tok.Param m) h = cc

same-itself : (t : Tok) → same t t ≡ true
same-itself (tok.Char c b) = and-true (sameb the_type c c) (eqb b b) (true_same the_type c c refl) (eq-eqb b b refl)
same-itself (tok.Name n) = eq-eqb n n refl
same-itself (tok.Active n) = eq-eqb n n refl
same-itself (tok.Param n) = eq-eqb n n refl
same-itself tok.Stop = refl

token-Decides : (a b : Tok) → Decides (same a b) (a ≡ b)
token-Decides a b = (same-equal a b, λ e. subst (λ t. same a t ≡ true) e (same-itself a))

list-Decides : (a b : List Tok) → Decides (same_tokens a b) (a ≡ b)
list-Decides a b = slice_eq-Decides token-Decides a b (same_tokens a b) refl

-- a list of the format
at-place : (lists : List (List Tok)) (content : List Tok) (k : ℕ) → position (λ list. same_tokens list content) lists ≡ Some k → slice_get lists k ≡ Some content
at-place lists content k e =
    let found = position-Some (λ list. same_tokens list content) lists k [] e in
    slice_get-get_or lists k [] found.0 ∙ ap Some ((list-Decides _ content).0 found.1)

no-list : (lists : List (List Tok)) (content : List Tok) → position (λ list. same_tokens list content) lists ≡ None → (k : ℕ) → slice_get lists k ≢ Some content
no-list lists content e k is =
    let fails = no-place (λ list. same_tokens list content) lists e k content is in
    let same = (list-Decides content content).1 refl in
    cc

all-same : (plain : Plain) → Same (session_of plain) (session_of plain)
all-same plain = (record { names = λ n. refl; format = refl }, record { row = λ id. refl; total = refl })

-- the format has that list
pub after-found : (format : Engineless) (texts : List (List ℕ)) (slots : List Slot) (plain : Plain) (content : List Tok) (k : ℕ) →
    ◌≡◌ {A = Plain} (record { format = format; texts = texts; slots = slots }) plain → position (λ list. same_tokens list content) format.lists ≡ Some k →
    (slice_get plain.format.lists k ≡ Some content) × Same (session_of plain) (session_of plain)
after-found format texts slots plain content k is e = (ap (λ p. slice_get p.format.lists k) (sym is) ∙ at-place format.lists content k e, all-same plain)

-- a list that goes to a free place
pub after-shared : (format : Engineless) (texts : List (List ℕ)) (slots new : List Slot) (plain : Plain) (content : List Tok) (id : ℕ) →
    ◌≡◌ {A = Plain} (record { format = format; texts = texts; slots = slots }) plain → content ≢ [] → position (λ list. same_tokens list content) format.lists ≡ None →
    held_at slots id ≡ None → SlotHolds slots id content 1 (total slots + 1) new →
    (content ≢ []) × ((k : ℕ) → slice_get plain.format.lists k ≢ Some content) × ((h : Holding) → held_at plain.slots id ≡ Some h → h.content ≡ content)
    × Holds (session_of plain) id content (count_of (held_at plain.slots id) + 1) (total plain.slots + 1) (session_of (record { format = format; texts = texts; slots = new }))
after-shared format texts slots new plain content id is some none free holds =
    let old : Plain = record { format = format; texts = texts; slots = slots } in
    let free_now : held_at plain.slots id ≡ None = ap (λ p. held_at p.slots id) (sym is) ∙ free in (
      some,
      no-list plain.format.lists content (ap (λ p. position (λ list. same_tokens list content) p.format.lists) (sym is) ∙ none),
      (λ h e. let bad = sym free_now ∙ e in cc),
      subst (λ p. Holds (session_of p) id content (count_of (held_at p.slots id) + 1) (total p.slots + 1) (session_of (record { format = format; texts = texts; slots = new }))) is
          (subst (λ o. Holds (session_of old) id content (count_of o + 1) (total slots + 1) (session_of (record { format = format; texts = texts; slots = new }))) (sym free) (record {
            names = record { names = λ n. refl; format = refl };
            here = holds.here;
            others = holds.others;
            total = holds.total;
          })),
    )
