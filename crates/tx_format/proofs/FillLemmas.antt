-- Putting in what a state says, address by address.
use Rattle.std.proofs.Common.{◌≡◌, ℕ, zero, suc, ◌+◌, ◌≤◌, ◌<◌, length, drop, get_or, Bool, true, false, cond, ◌&&◌, eqb, nat_lt, List, [], ◌∷◌, Option, None, Some, refl, sym, ap, subst, ◌∙◌, arith, inl, inr, true≢false}
use Rattle.std.specs.List.{slice_get}
use Rattle.std.specs.Option.{option_or, option_map}
use Rattle.std.proofs.lemmas.Option.{slice_get_past}
use Rattle.std.proofs.lemmas.Bool.Decides.{nat_tests}
use Rattle.tx_eqtb.specs.declared.addr.Addr.{Addr}
use Rattle.tx_eqtb.specs.declared.addr.AddrKind.{AddrKind}
use Rattle.tx_eqtb.specs.declared.addr.AddrKind.TheVariants as kind
use Rattle.tx_eqtb.specs.declared.meaning.Meaning.TheVariants as meaning
use Rattle.tx_eqtb.specs.contracts.addr.AddrKindPartialEq.TheImpl as kinds
use Rattle.tx_eqtb.specs.contracts.addr.AddrKindEq.TheImpl.Laws.{laws-law}
use Rattle.tx_eqtb.specs.declared.meaning.Meaning.{Meaning}
use Rattle.tx_eqtb.specs.Addresses.{same, update}
use Rattle.tx_eqtb.proofs.AddressLemmas.{same-equal}
use Rattle.tx_node.specs.declared.BoxNode.{BoxNode}
use Rattle.tx_format.specs.declared.preset.Preset.{Preset}
use Rattle.tx_format.specs.States.{told, code, byte_code}
use Rattle.tx_format.specs.declared.fill.TheConstants.{KINDS}
use Rattle.tx_format.specs.declared.parameters.TheConstants.{INTEGERS, DIMENSIONS, GLUES}
use Rattle.tx_format.specs.Fillings.{filled}

by_answer : {P : Type 0} (b : Bool) → (b ≡ true → P) → (b ≡ false → P) → P
by_answer true p q = p refl
by_answer false p q = q refl

-- one number more is below the next limit, where it isn't the limit
wider : (k : Bool) (i n : ℕ) → k && eqb i n ≡ false → k && nat_lt n i ≡ k && nat_lt n (i + 1)
wider false i n e = refl
wider true i n e = grind (arith, nat_tests)

not_below : (i : ℕ) → nat_lt i i ≡ false
not_below i = grind (arith, nat_tests)

is_below : (i : ℕ) → nat_lt i (i + 1) ≡ true
is_below i = grind (arith, nat_tests)

module _ (preset : Preset) (kind : AddrKind) (old : Addr → Option (Meaning BoxNode)) where
  -- the address of this kind and number
  abbrev pub at_number : ℕ → Addr
  at_number i = record { kind = kind; no = i }

  abbrev pub upto : ℕ → Addr → Option (Meaning BoxNode)
  upto i q = filled preset kind i q (old q)

  here : (i : ℕ) → option_or (told preset kind i) (upto i (at_number i)) ≡ upto (i + 1) (at_number i)
  here i =
      let own : kinds.ghosts.eq kind kind ≡ true = laws-law.refl kind in
      rw (own, not_below i, is_below i) refl

  -- one address more
  pub filled-more : (i : ℕ) (q : Addr) → update (upto i) (at_number i) (option_or (told preset kind i) (upto i (at_number i))) q ≡ upto (i + 1) q
  filled-more i q =
      by_answer (same (at_number i) q)
      (λ y. ap (λ b. cond b (option_or (told preset kind i) (upto i (at_number i))) (upto i q)) y ∙ subst (λ r. option_or (told preset kind i) (upto i (at_number i)) ≡ upto (i + 1) r) (same-equal (at_number i) q y) (here i))
      (λ n. ap (λ b. cond b (option_or (told preset kind i) (upto i (at_number i))) (upto i q)) n ∙ ap (λ b. cond b (option_or (told preset q.kind q.no) (old q)) (old q)) (wider (kinds.ghosts.eq kind q.kind) i q.no n))

  pub filled-step : (i : ℕ) (f : Addr → Option (Meaning BoxNode)) → ((r : Addr) → f r ≡ upto i r) → (q : Addr) → update f (at_number i) (option_or (told preset kind i) (f (at_number i))) q ≡ upto (i + 1) q
  filled-step i f h q =
      ap (λ x. cond (same (at_number i) q) (option_or (told preset kind i) (f (at_number i))) x) (h q)
      ∙ ap (λ y. cond (same (at_number i) q) (option_or (told preset kind i) y) (upto i q)) (h (at_number i))
      ∙ filled-more i q

-- what stands at an address once all is put in that is said of addresses of these kinds
abbrev pub filled_by : Preset → List AddrKind → Addr → Option (Meaning BoxNode) → Option (Meaning BoxNode)
filled_by preset [] q old = old
filled_by preset (kind ∷ kinds) q old = filled_by preset kinds q (filled preset kind 297 q old)

settle : (b : Bool) (t : Option (Meaning BoxNode)) → (b ≡ false → t ≡ None) → cond b (option_or t None) None ≡ t
settle true None h = refl
settle true (Some m) h = refl
settle false t h = sym (h refl)

-- the kind at a place is the next one
filled-next : (preset : Preset) (ks : List AddrKind) (i : ℕ) (d : AddrKind) (q : Addr) (o : Option (Meaning BoxNode)) → i < length ks → filled_by preset (drop (suc i) ks) q (filled preset (get_or ks i d) 297 q o) ≡ filled_by preset (drop i ks) q o
filled-next preset [] i d q o lt = absurd (omega arith)
filled-next preset (k ∷ ks) zero d q o lt = refl
filled-next preset (k ∷ ks) (suc i) d q o lt = filled-next preset ks i d q o (omega arith)

pub filled-after : (preset : Preset) (ks : List AddrKind) (i : ℕ) (d : AddrKind) (q : Addr) (o n : Option (Meaning BoxNode)) → i < length ks → n ≡ filled preset (get_or ks i d) 297 q o → filled_by preset (drop (i + 1) ks) q n ≡ filled_by preset (drop i ks) q o
filled-after preset ks i d q o n lt is =
    let more : i + 1 ≡ suc i = omega arith in
    ap (λ j. filled_by preset (drop j ks) q n) more ∙ ap (filled_by preset (drop (suc i) ks) q) is ∙ filled-next preset ks i d q o lt

pub filled-all : (preset : Preset) (ks : List AddrKind) (i : ℕ) (q : Addr) (o : Option (Meaning BoxNode)) → length ks ≤ i → filled_by preset (drop i ks) q o ≡ o
filled-all preset [] zero q o le = refl
filled-all preset [] (suc i) q o le = refl
filled-all preset (k ∷ ks) zero q o le = absurd (omega arith)
filled-all preset (k ∷ ks) (suc i) q o le = filled-all preset ks i q o (omega arith)

no_byte : (n : ℕ) → nat_lt n 297 ≡ false → nat_lt n 256 ≡ false
no_byte n e = grind (arith, nat_tests)

no_item : {X Y : Type 0} (f : X → Y) (xs : List X) (n : ℕ) → length xs ≤ 297 → nat_lt n 297 ≡ false → option_map f (slice_get xs n) ≡ None
no_item f xs n le e =
    let past : length xs ≤ n = grind (arith, nat_tests) in
    ap (option_map f) (slice_get_past xs n past)

-- of a number past all that it speaks of a state says nothing
nothing_past : (preset : Preset) (k : AddrKind) (n : ℕ) → nat_lt n 256 ≡ false → byte_code preset k n ≡ None
nothing_past preset k n e = ap (λ b. cond b (option_map meaning.Int (code preset k n)) None) e

abbrev pub nothing : Bool → Option (Meaning BoxNode)
nothing b = cond b None None

no_code : (b : Bool) → nothing b ≡ None
no_code true = refl
no_code false = refl

-- all kinds together make of nothing what a state says
pub all-filled : (preset : Preset) (k : AddrKind) (n : ℕ) → filled_by preset KINDS (record { kind = k; no = n }) None ≡ told preset k n
all-filled preset kind.Name n = settle (nat_lt n 297) (told preset kind.Name n) (λ e. ap (λ b. cond b (Some (meaning.Prim n)) None) e)
all-filled preset kind.CatCode n = settle (nat_lt n 297) (told preset kind.CatCode n) (λ e. nothing_past preset kind.CatCode n (no_byte n e))
all-filled preset kind.LcCode n = settle (nat_lt n 297) (told preset kind.LcCode n) (λ e. nothing_past preset kind.LcCode n (no_byte n e))
all-filled preset kind.UcCode n = settle (nat_lt n 297) (told preset kind.UcCode n) (λ e. nothing_past preset kind.UcCode n (no_byte n e))
all-filled preset kind.SfCode n = settle (nat_lt n 297) (told preset kind.SfCode n) (λ e. nothing_past preset kind.SfCode n (no_byte n e))
all-filled preset kind.MathCode n = settle (nat_lt n 297) (told preset kind.MathCode n) (λ e. nothing_past preset kind.MathCode n (no_byte n e))
all-filled preset kind.DelCode n = settle (nat_lt n 297) (told preset kind.DelCode n) (λ e. nothing_past preset kind.DelCode n (no_byte n e))
all-filled preset kind.IntParam n = settle (nat_lt n 297) (told preset kind.IntParam n) (λ e. no_item _ INTEGERS n (omega arith) e)
all-filled preset kind.DimenParam n = settle (nat_lt n 297) (told preset kind.DimenParam n) (λ e. no_item _ DIMENSIONS n (omega arith) e)
all-filled preset kind.GlueParam n = settle (nat_lt n 297) (told preset kind.GlueParam n) (λ e. no_item _ GLUES n (omega arith) e)
all-filled preset kind.Active n = sym (no_code (nat_lt n 256))
all-filled preset kind.Count n = sym (no_code (nat_lt n 256))
all-filled preset kind.Dimen n = sym (no_code (nat_lt n 256))
all-filled preset kind.Skip n = sym (no_code (nat_lt n 256))
all-filled preset kind.Muskip n = sym (no_code (nat_lt n 256))
all-filled preset kind.Toks n = sym (no_code (nat_lt n 256))
all-filled preset kind.Box n = sym (no_code (nat_lt n 256))
all-filled preset kind.ToksParam n = sym (no_code (nat_lt n 256))
all-filled preset kind.CurrentFont n = sym (no_code (nat_lt n 256))
all-filled preset kind.Family n = sym (no_code (nat_lt n 256))
all-filled preset kind.ParShape n = sym (no_code (nat_lt n 256))
