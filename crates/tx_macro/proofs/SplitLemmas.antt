-- Tokens that match are split so, and in one way.
use Rattle.std.proofs.Common.{◌≡◌, Bool, ℕ, ◌+◌, ◌-◌, true, not, ◌&&◌, ◌||◌, eqb, leb, length, drop, get_or, inl, inr, arith, append_assoc, List, [], ◌∷◌, ◌++◌, refl, sym, ◌∙◌, ap, subst, append-nil}
use Rattle.std.proofs.lemmas.Bool.{cases_lt, eqb-true}
use Rattle.std.proofs.lemmas.List.{drop_more, drop_all}
use Rattle.tx_model.specs.declared.category.Cat.{Cat}
use Rattle.tx_tok.specs.declared.tok.Tok.{Tok}
use Rattle.tx_tok.specs.declared.tok.Tok.TheVariants as tok
use Rattle.tx_macro.specs.declared.rule.Rule.{Rule}
use Rattle.tx_macro.specs.Outcome.{same, front, behind, Standing, Stands, Within, Differs, standing, Piece, Found, Partial, Wrong, argument_before, Outcome, Matched, Open, Fails, with_argument, followed, arguments, opened, outcome, undelimited, is_begin, is_end}
use Rattle.tx_macro.specs.Split.{IsArgument, AreArguments, Splits, can_stand, all_can_stand}
use Rattle.tx_macro.specs.Laws.{MatchedIsSplit, SplitIsMatched, SplitIsUnique, SubstitutionRestores}
use Rattle.tx_macro.specs.ParameterText.{is_text_from}
use Rattle.tx_macro.specs.Substitution.{substituted}
use Rattle.tx_macro.proofs.SameLemmas.{both, and-true, standing-equal, standing-itself}
use Rattle.tx_macro.proofs.DelimitedLemmas.{takes, is-delimited, found-shortest, is-shortest}
use Rattle.tx_macro.proofs.UndelimitedLemmas.{takes-one, found-behind-blanks}

-- an argument and its delimiter
record TakesArgument (delimiter tokens argument later : List Tok) : Type 0 where
  raw : List Tok
  split : tokens ≡ raw ++ delimiter ++ later
  is_argument : IsArgument delimiter raw argument later

takes-argument : (rule : Rule) (delimiter tokens argument later : List Tok) → argument_before rule delimiter tokens ≡ Found argument later → TakesArgument delimiter tokens argument later
takes-argument rule [] tokens argument later e =
    let r = takes-one rule tokens argument later e in
    record {
      raw = r.blanks ++ r.one;
      split = r.split ∙ ap (λ xs. xs ++ later) (sym (append-nil (r.blanks ++ r.one)));
      is_argument = record { blanks = r.blanks; one = r.one; split = refl; blank = r.blank; is_one = r.is_one; bare = r.bare };
    }
takes-argument rule (p ∷ delimiter) tokens argument later e =
    let r = takes rule (p ∷ delimiter) 0 [] tokens argument later e in
    record {
      raw = r.raw;
      split = r.split;
      is_argument = (is-delimited (p ∷ delimiter) r.raw later r.shortest, r.bare);
    }

-- the arguments, as they stood
record TakesArguments (delimiters : List (List Tok)) (found : List (List Tok)) (tokens rest : List Tok) : Type 0 where
  raws : List (List Tok)
  each : AreArguments delimiters raws found tokens rest

none-left : (found : List (List Tok)) (tokens rest : List Tok) → Matched [] tokens ≡ Matched found rest → TakesArguments [] found tokens rest
none-left [] tokens rest e = record { raws = []; each = cc }
none-left (a ∷ found) tokens rest e = cc

by-rest : (rule : Rule) (delimiter : List Tok) (delimiters found : List (List Tok)) (tokens rest argument later : List Tok) →
    TakesArgument delimiter tokens argument later →
    ((more : List (List Tok)) → arguments rule delimiters later ≡ Matched more rest → TakesArguments delimiters more later rest) →
    (o : Outcome) → arguments rule delimiters later ≡ o → with_argument argument o ≡ Matched found rest →
    TakesArguments (delimiter ∷ delimiters) found tokens rest
by-rest rule delimiter delimiters [] tokens rest argument later one ih (Matched matched r) is e = cc
by-rest rule delimiter delimiters (a ∷ found) tokens rest argument later one ih (Matched matched r) is e =
    let same : argument ≡ a = cc in
    let others : matched ≡ found = cc in
    let end : r ≡ rest = cc in
    let more = ih found (is ∙ (ap (λ x. Matched x r) others ∙ ap (λ x. Matched found x) end)) in
    record {
      raws = one.raw ∷ more.raws;
      each = (later, one.split, subst (λ x. IsArgument delimiter one.raw x later) same one.is_argument, more.each);
    }
by-rest rule delimiter delimiters found tokens rest argument later one ih Open is e = cc
by-rest rule delimiter delimiters found tokens rest argument later one ih (Fails m) is e = cc

by-piece : (rule : Rule) (delimiter : List Tok) (delimiters found : List (List Tok)) (tokens rest : List Tok) →
    ((later : List Tok) (more : List (List Tok)) → arguments rule delimiters later ≡ Matched more rest → TakesArguments delimiters more later rest) →
    (p : Piece) → argument_before rule delimiter tokens ≡ p → followed p (arguments rule delimiters) ≡ Matched found rest →
    TakesArguments (delimiter ∷ delimiters) found tokens rest
by-piece rule delimiter delimiters found tokens rest ih (Found argument later) is e =
    by-rest rule delimiter delimiters found tokens rest argument later (takes-argument rule delimiter tokens argument later is) (ih later) (arguments rule delimiters later) refl e
by-piece rule delimiter delimiters found tokens rest ih Partial is e = cc
by-piece rule delimiter delimiters found tokens rest ih (Wrong m) is e = cc

takes-arguments : (rule : Rule) (delimiters : List (List Tok)) (tokens rest : List Tok) (found : List (List Tok)) →
    arguments rule delimiters tokens ≡ Matched found rest → TakesArguments delimiters found tokens rest
takes-arguments rule [] tokens rest found e = none-left found tokens rest e
takes-arguments rule (delimiter ∷ delimiters) tokens rest found e =
    by-piece rule delimiter delimiters found tokens rest (λ later more. takes-arguments rule delimiters later rest more)
    (argument_before rule delimiter tokens) refl e

by-first : (rule : Rule) (params tokens : List Tok) (found : List (List Tok)) (rest : List Tok) →
    (s : Standing) → standing (front params) tokens ≡ s → opened s (arguments rule (behind params)) ≡ Matched found rest →
    Splits params found tokens rest
by-first rule params tokens found rest (Stands later) is e =
    let r = takes-arguments rule (behind params) later rest found e in
    record {
      raws = r.raws;
      later = later;
      first = standing-equal (front params) tokens later is;
      each = r.each;
    }
by-first rule params tokens found rest Within is e = cc
by-first rule params tokens found rest Differs is e = cc

pub matched-is-split : MatchedIsSplit
matched-is-split long par params tokens found rest e =
    by-first (record { long = long; par = par }) params tokens found rest (standing (front params) tokens) refl e

can_stand-behind : (long : Bool) (par : Tok) (a b : List Tok) → can_stand long par (a ++ b) ≡ true → can_stand long par b ≡ true
can_stand-behind long par [] b free = free
can_stand-behind long par (t ∷ a) b free =
    can_stand-behind long par a b (both (long || not (same t par)) (can_stand long par (a ++ b)) free).1

-- an argument as it stood and its delimiter are found
found-argument : (rule : Rule) (delimiter raw argument later : List Tok) → can_stand rule.long rule.par raw ≡ true → IsArgument delimiter raw argument later →
    argument_before rule delimiter (raw ++ delimiter ++ later) ≡ Found argument later
found-argument rule [] raw argument later free h =
    let free_one = can_stand-behind rule.long rule.par h.blanks h.one (ap (can_stand rule.long rule.par) (sym h.split) ∙ free) in
    ap (λ xs. undelimited rule 0 [] (xs ++ later)) (append-nil raw ∙ h.split)
    ∙ (found-behind-blanks rule h.blanks h.one later h.blank h.is_one free_one ∙ ap (λ x. Found x later) (sym h.bare))
found-argument rule (p ∷ delimiter) raw argument later free h =
    found-shortest rule p delimiter raw 0 [] later free (is-shortest (p ∷ delimiter) raw later h.0) ∙ ap (λ x. Found x later) (sym h.1)

found-arguments : (rule : Rule) (delimiters raws found : List (List Tok)) (tokens rest : List Tok) → all_can_stand rule.long rule.par raws ≡ true →
    AreArguments delimiters raws found tokens rest → arguments rule delimiters tokens ≡ Matched found rest
found-arguments rule [] [] [] tokens rest free h = ap (λ x. Matched [] x) h
found-arguments rule (delimiter ∷ delimiters) (raw ∷ raws) (a ∷ found) tokens rest free h =
    let frees = both (can_stand rule.long rule.par raw) (all_can_stand rule.long rule.par raws) free in
    ap (arguments rule (delimiter ∷ delimiters)) h.1
    ∙ (ap (λ p. followed p (arguments rule delimiters)) (found-argument rule delimiter raw a h.0 frees.0 h.2)
    ∙ ap (with_argument a) (found-arguments rule delimiters raws found h.0 rest frees.1 h.3))
found-arguments rule delimiters raws found tokens rest free h = absurd h

pub split-is-matched : SplitIsMatched
split-is-matched long par params tokens found rest split free =
    ap (outcome long par params) split.first
    ∙ (ap (λ s. opened s (arguments (record { long = long; par = par }) (behind params))) (standing-itself (front params) split.later)
    ∙ found-arguments (record { long = long; par = par }) (behind params) split.raws found split.later rest free split.each)

-- all tokens can stand in an argument of a long macro
can_stand-long : (par : Tok) (tokens : List Tok) → can_stand true par tokens ≡ true
can_stand-long par [] = refl
can_stand-long par (t ∷ tokens) = can_stand-long par tokens

all_can_stand-long : (par : Tok) (raws : List (List Tok)) → all_can_stand true par raws ≡ true
all_can_stand-long par [] = refl
all_can_stand-long par (raw ∷ raws) =
    and-true (can_stand true par raw) (all_can_stand true par raws) (can_stand-long par raw) (all_can_stand-long par raws)

same-found : (found others : List (List Tok)) (rest other : List Tok) → Matched found rest ≡ Matched others other → (found ≡ others) × (rest ≡ other)
same-found found others rest other e =
    let arguments_are : found ≡ others = cc in
    let rest_is : rest ≡ other = cc in
    (arguments_are, rest_is)

pub split-is-unique : SplitIsUnique
split-is-unique params tokens found others rest other a b =
    same-found found others rest other
    (sym (split-is-matched true tok.Stop params tokens found rest a (all_can_stand-long tok.Stop a.raws))
    ∙ split-is-matched true tok.Stop params tokens others other b (all_can_stand-long tok.Stop b.raws))

-- the arguments from here on begin with this one
drop-first : (n : ℕ) (all : List (List Tok)) (raw : List Tok) (raws : List (List Tok)) → drop n all ≡ raw ∷ raws →
    (get_or all n [] ≡ raw) × (drop (n + 1) all ≡ raws)
drop-first n all raw raws e =
    elim (cases_lt n (length all)) [
      | inl h ↦
          let more : raw ∷ raws ≡ get_or all n [] ∷ drop (n + 1) all = sym e ∙ drop_more all n [] h in
          let first : get_or all n [] ≡ raw = cc in
          let rest : drop (n + 1) all ≡ raws = cc in
          (first, rest)
      | inr h ↦
          let none : raw ∷ raws ≡ [] = sym e ∙ drop_all n all h in
          cc
    ]

number-of : (k n : ℕ) → eqb k (n + 1) ≡ true → k - 1 ≡ n
number-of k n e = let same = eqb-true k (n + 1) e in omega (arith, same)

text-rest : (c : Cat) (b n : ℕ) (params : List Tok) → is_text_from n (tok.Char c b ∷ params) ≡ true → is_text_from n params ≡ true
text-rest c b n params e =
    (both (not (is_end (tok.Char c b)) && (not (is_begin (tok.Char c b)) || eqb (length params) 0)) (is_text_from n params) e).1

-- the arguments as they stood in a parameter text whose first parameter is the next one
restores : (params : List Tok) (n : ℕ) (all raws found : List (List Tok)) (later rest : List Tok) →
    is_text_from (n + 1) params ≡ true → drop n all ≡ raws → AreArguments (behind params) raws found later rest →
    substituted all params ++ rest ≡ front params ++ later
restores [] n all [] [] later rest texts e h = sym h
restores [] n all [] (a ∷ found) later rest texts e h = absurd h
restores [] n all (raw ∷ raws) found later rest texts e h = absurd h
restores (tok.Param k ∷ params) n all [] found later rest texts e h = absurd h
restores (tok.Param k ∷ params) n all (raw ∷ raws) [] later rest texts e h = absurd h
restores (tok.Param k ∷ params) n all (raw ∷ raws) (a ∷ found) later rest texts e h =
    let parts = both (eqb k (n + 1) && leb (n + 1) 9) (is_text_from (n + 1 + 1) params) texts in
    let numbers = both (eqb k (n + 1)) (leb (n + 1) 9) parts.0 in
    let number : k - 1 ≡ n = number-of k n numbers.0 in
    let there = drop-first n all raw raws e in
    let inner = restores params (n + 1) all raws found h.0 rest parts.1 there.1 h.3 in
    ap (λ i. (get_or all i [] ++ substituted all params) ++ rest) number
    ∙ (ap (λ x. (x ++ substituted all params) ++ rest) there.0
    ∙ (append_assoc raw (substituted all params) rest
    ∙ (ap (λ x. raw ++ x) inner ∙ (sym (append_assoc raw (front params) h.0) ∙ sym h.1))))
restores (tok.Char c b ∷ params) n all raws found later rest texts e h =
    ap (λ xs. tok.Char c b ∷ xs) (restores params n all raws found later rest (text-rest c b (n + 1) params texts) e h)
restores (tok.Name m ∷ params) n all raws found later rest texts e h =
    ap (λ xs. tok.Name m ∷ xs) (restores params n all raws found later rest texts e h)
restores (tok.Active m ∷ params) n all raws found later rest texts e h =
    ap (λ xs. tok.Active m ∷ xs) (restores params n all raws found later rest texts e h)
restores (tok.Stop ∷ params) n all raws found later rest texts e h =
    ap (λ xs. tok.Stop ∷ xs) (restores params n all raws found later rest texts e h)

pub substitution-restores : SubstitutionRestores
substitution-restores params tokens found rest split text =
    restores params 0 split.raws split.raws found split.later rest text.0 refl split.each ∙ sym split.first
