-- Skips: what was passed over counts only by the conditionals that it leaves open.
use Rattle.std.proofs.Common.{◌≡◌, ℕ, zero, suc, ◌+◌, ◌<◌, Bool, true, false, cond, nat_eq, List, [], ◌∷◌, ◌++◌, Option, Some, None, refl, sym, ◌∙◌, ap, subst, arith, append_assoc, append-nil, IsTrue, replicate}
use Rattle.std.specs.Prelude.{count_by}
use Rattle.std.proofs.lemmas.Bool.Decides.{nat_tests}
use Rattle.std.proofs.lemmas.List.Sums.{sum_by-cons, sum_by_push}
use Rattle.tx_cond.specs.declared.skip.SkipKind.{SkipKind}
use Rattle.tx_cond.specs.declared.skip.SkipKind.TheVariants as kind
use Rattle.tx_cond.specs.declared.skip.SkipEnd.{SkipEnd}
use Rattle.tx_cond.specs.Skips.{Wanted, Skipped, Ended, Skipping, wanted_word, is_conditional, is_fi, is_balanced, end_behind, skip_behind, skip, says}
use Rattle.tx_cond.specs.Laws.{SkipEndsAtWord, WordEndsSkip}

-- the conditionals and the \fi among tokens
abbrev conditionals : List SkipKind → ℕ
conditionals tokens = count_by is_conditional tokens

abbrev fis : List SkipKind → ℕ
fis tokens = count_by is_fi tokens

abbrev one_if : Bool → ℕ
one_if b = cond b 1 0

conditionals-push : (tokens : List SkipKind) (token : SkipKind) →
    conditionals (tokens ++ token ∷ []) ≡ conditionals tokens + one_if (is_conditional token)
conditionals-push tokens token = sum_by_push (λ x. cond (is_conditional x) 1 0) tokens token

fis-push : (tokens : List SkipKind) (token : SkipKind) →
    fis (tokens ++ token ∷ []) ≡ fis tokens + one_if (is_fi token)
fis-push tokens token = sum_by_push (λ x. cond (is_fi x) 1 0) tokens token

conditionals-nested : (n : ℕ) → conditionals (replicate n kind.If) ≡ n
conditionals-nested zero = refl
conditionals-nested (suc n) =
    sum_by-cons (λ x. cond (is_conditional x) 1 0) kind.If (replicate n kind.If) ∙ ap (λ m. 1 + m) (conditionals-nested n) ∙ omega arith

fis-nested : (n : ℕ) → fis (replicate n kind.If) ≡ 0
fis-nested zero = refl
fis-nested (suc n) =
    sum_by-cons (λ x. cond (is_fi x) 1 0) kind.If (replicate n kind.If) ∙ ap (λ m. 0 + m) (fis-nested n)

same-test : (m n p q : ℕ) → m + q ≡ p + n → nat_eq m n ≡ nat_eq p q
same-test m n p q e = grind (arith, nat_tests)

unequal : (m n : ℕ) → n < m → nat_eq m n ≡ false
unequal m n h = grind (arith, nat_tests)

-- what was passed over counts only by the conditionals that it leaves open
same-depth : (wanted : Wanted) (a b later : List SkipKind) →
    conditionals a + fis b ≡ conditionals b + fis a → skip_behind wanted a later ≡ skip_behind wanted b later
same-depth wanted a b [] e = refl
same-depth wanted a b (token ∷ later) e =
    let test : is_balanced a ≡ is_balanced b = same-test (conditionals a) (fis a) (conditionals b) (fis b) e in
    let c1 = conditionals-push a token in
    let c2 = conditionals-push b token in
    let f1 = fis-push a token in
    let f2 = fis-push b token in
    let deeper : conditionals (a ++ token ∷ []) + fis (b ++ token ∷ []) ≡ conditionals (b ++ token ∷ []) + fis (a ++ token ∷ []) = omega arith in
    let rest = same-depth wanted (a ++ token ∷ []) (b ++ token ∷ []) later deeper in
    let go : Bool → Skipped → Skipped = λ t s. elim (cond t (wanted_word wanted token) None) [ Some word ↦ Ended word later | None ↦ s ] in
    ap (λ t. go t (skip_behind wanted (a ++ token ∷ []) later)) test ∙ ap (λ s. go (is_balanced b) s) rest

-- no word ends the skip here
pub passed-over : (wanted : Wanted) (passed : List SkipKind) (token : SkipKind) (later : List SkipKind) →
    end_behind wanted passed token ≡ None →
    skip_behind wanted passed (token ∷ later) ≡ skip_behind wanted (passed ++ token ∷ []) later
passed-over wanted passed token later e =
    ap (λ (o : Option SkipEnd). elim o as (λ x. Skipped) [ Some word ↦ Ended word later | None ↦ skip_behind wanted (passed ++ token ∷ []) later ]) e

-- a word ends the skip here
pub ended-here : (wanted : Wanted) (passed : List SkipKind) (token : SkipKind) (later : List SkipKind) (word : SkipEnd) →
    end_behind wanted passed token ≡ Some word → skip_behind wanted passed (token ∷ later) ≡ Ended word later
ended-here wanted passed token later word e =
    ap (λ (o : Option SkipEnd). elim o as (λ x. Skipped) [ Some word ↦ Ended word later | None ↦ skip_behind wanted (passed ++ token ∷ []) later ]) e

-- within nested conditionals no word ends the skip
pub nested-none : (wanted : Wanted) (n : ℕ) (token : SkipKind) →
    (n ≡ 0 → wanted_word wanted token ≡ None) → end_behind wanted (replicate n kind.If) token ≡ None
nested-none wanted zero token unwanted = unwanted refl
nested-none wanted (suc n) token unwanted =
    let c : conditionals (replicate (suc n) kind.If) ≡ suc n = conditionals-nested (suc n) in
    let f : fis (replicate (suc n) kind.If) ≡ 0 = fis-nested (suc n) in
    let test : is_balanced (replicate (suc n) kind.If) ≡ false = unequal _ _ (omega arith) in
    ap (λ (t : Bool). cond t (wanted_word wanted token) None) test

-- a token that doesn't end the skip is passed over
pub passes : (before after : Skipping) (token : SkipKind) (later : List SkipKind) →
    before.wanted ≡ after.wanted → (before.nested ≡ 0 → wanted_word before.wanted token ≡ None) →
    before.nested + one_if (is_conditional token) ≡ after.nested + one_if (is_fi token) →
    says before (token ∷ later) ≡ says after later
passes before after token later same unwanted e =
    let c0 = conditionals-nested before.nested in
    let f0 = fis-nested before.nested in
    let c2 = conditionals-nested after.nested in
    let f2 = fis-nested after.nested in
    let c1 = conditionals-push (replicate before.nested kind.If) token in
    let f1 = fis-push (replicate before.nested kind.If) token in
    let h : conditionals (replicate before.nested kind.If ++ token ∷ []) + fis (replicate after.nested kind.If) ≡ conditionals (replicate after.nested kind.If) + fis (replicate before.nested kind.If ++ token ∷ []) = omega arith in
    passed-over before.wanted (replicate before.nested kind.If) token later (nested-none before.wanted before.nested token unwanted)
    ∙ same-depth before.wanted (replicate before.nested kind.If ++ token ∷ []) (replicate after.nested kind.If) later h
    ∙ ap (λ w. skip_behind w (replicate after.nested kind.If) later) same

-- what it means that a skip ended behind what it had passed over
record EndsBehind (wanted : Wanted) (passed later : List SkipKind) (word : SkipEnd) (rest : List SkipKind) : Type 0 where
  more : List SkipKind
  token : SkipKind
  split : later ≡ more ++ token ∷ rest
  ends : end_behind wanted (passed ++ more) token ≡ Some word
  least : (front : List SkipKind) (early : SkipKind) (back : List SkipKind) →
      more ≡ front ++ early ∷ back → end_behind wanted (passed ++ front) early ≡ None

nil-split : (front : List SkipKind) (early : SkipKind) (back : List SkipKind) → [] ≡ front ++ early ∷ back → ⊥
nil-split [] early back e = cc
nil-split (x ∷ front) early back e = cc

-- what was passed over, with one token more
regroup : (passed : List SkipKind) (token : SkipKind) (more : List SkipKind) →
    (passed ++ token ∷ []) ++ more ≡ passed ++ token ∷ more
regroup passed token more = append_assoc passed (token ∷ []) more

-- no token up to here ends the skip
least-cons : (wanted : Wanted) (passed : List SkipKind) (token : SkipKind) (more : List SkipKind) →
    end_behind wanted passed token ≡ None →
    ((front : List SkipKind) (early : SkipKind) (back : List SkipKind) →
    more ≡ front ++ early ∷ back → end_behind wanted ((passed ++ token ∷ []) ++ front) early ≡ None) →
    (front : List SkipKind) (early : SkipKind) (back : List SkipKind) →
    token ∷ more ≡ front ++ early ∷ back → end_behind wanted (passed ++ front) early ≡ None
least-cons wanted passed token more here later [] early back e =
    let same : token ≡ early = cc in
    let P : List SkipKind → SkipKind → Type 0 = λ xs x. end_behind wanted xs x ≡ None in
    subst (λ x. P (passed ++ []) x) same (subst (λ xs. P xs token) (sym (append-nil passed)) here)
least-cons wanted passed token more here later (f ∷ front) early back e =
    let same : token ≡ f = cc in
    let rest : more ≡ front ++ early ∷ back = cc in
    let P : List SkipKind → Type 0 = λ xs. end_behind wanted xs early ≡ None in
    subst (λ x. P (passed ++ x ∷ front)) same (subst P (regroup passed token front) (later front early back rest))

by-end : (wanted : Wanted) (passed : List SkipKind) (token : SkipKind) (later : List SkipKind) (word : SkipEnd) (rest : List SkipKind) →
    (skip_behind wanted (passed ++ token ∷ []) later ≡ Ended word rest → EndsBehind wanted (passed ++ token ∷ []) later word rest) →
    skip_behind wanted passed (token ∷ later) ≡ Ended word rest →
    (o : Option SkipEnd) → end_behind wanted passed token ≡ o → EndsBehind wanted passed (token ∷ later) word rest
by-end wanted passed token later word rest ih e (Some w) is =
    let ended = ended-here wanted passed token later w is in
    let same : Ended w later ≡ Ended word rest = sym ended ∙ e in
    let word_is : w ≡ word = cc in
    let rest_is : later ≡ rest = cc in
    let P : List SkipKind → Type 0 = λ xs. end_behind wanted xs token ≡ Some word in
    record {
      more = [];
      token = token;
      split = ap (λ xs. token ∷ xs) rest_is;
      ends = subst P (sym (append-nil passed)) (is ∙ ap (λ x. Some x) word_is);
      least = λ front early back split. absurd (nil-split front early back split);
    }
by-end wanted passed token later word rest ih e None is =
    let r = ih (sym (passed-over wanted passed token later is) ∙ e) in
    let P : List SkipKind → Type 0 = λ xs. end_behind wanted xs r.token ≡ Some word in
    record {
      more = token ∷ r.more;
      token = r.token;
      split = ap (λ xs. token ∷ xs) r.split;
      ends = subst P (regroup passed token r.more) r.ends;
      least = least-cons wanted passed token r.more is r.least;
    }

ends-behind : (wanted : Wanted) (passed later : List SkipKind) (word : SkipEnd) (rest : List SkipKind) →
    skip_behind wanted passed later ≡ Ended word rest → EndsBehind wanted passed later word rest
ends-behind wanted passed [] word rest e = cc
ends-behind wanted passed (token ∷ later) word rest e =
    by-end wanted passed token later word rest (ends-behind wanted (passed ++ token ∷ []) later word rest) e (end_behind wanted passed token) refl

parts : (b : Bool) (o : Option SkipEnd) (word : SkipEnd) → cond b o None ≡ Some word → IsTrue b × (o ≡ Some word)
parts true o word e = (refl, e)
parts false o word e = cc

-- a word that ends a skip is a wanted one behind balanced tokens
ends-parts : (wanted : Wanted) (passed : List SkipKind) (token : SkipKind) (word : SkipEnd) →
    end_behind wanted passed token ≡ Some word → IsTrue (is_balanced passed) × (wanted_word wanted token ≡ Some word)
ends-parts wanted passed token word e = parts (is_balanced passed) (wanted_word wanted token) word e

pub skip-ends-at-word : SkipEndsAtWord
skip-ends-at-word wanted tokens word rest e =
    let r = ends-behind wanted [] tokens word rest e in
    let p = ends-parts wanted r.more r.token word r.ends in
    record {
      passed = r.more;
      token = r.token;
      split = r.split;
      balanced = p.0;
      is_wanted = p.1;
      least = r.least;
    }

-- up to its end a skip passes over all
up-to : (wanted : Wanted) (passed more : List SkipKind) (token : SkipKind) (word : SkipEnd) (rest : List SkipKind) →
    end_behind wanted (passed ++ more) token ≡ Some word →
    ((front : List SkipKind) (early : SkipKind) (back : List SkipKind) →
    more ≡ front ++ early ∷ back → end_behind wanted (passed ++ front) early ≡ None) →
    skip_behind wanted passed (more ++ token ∷ rest) ≡ Ended word rest
up-to wanted passed [] token word rest ends least =
    let P : List SkipKind → Type 0 = λ xs. end_behind wanted xs token ≡ Some word in
    ended-here wanted passed token rest word (subst P (append-nil passed) ends)
up-to wanted passed (m ∷ more) token word rest ends least =
    let P : List SkipKind → Type 0 = λ xs. end_behind wanted xs token ≡ Some word in
    let N : List SkipKind → Type 0 = λ xs. end_behind wanted xs m ≡ None in
    let first : end_behind wanted passed m ≡ None = subst N (append-nil passed) (least [] m more refl) in
    passed-over wanted passed m (more ++ token ∷ rest) first
    ∙ up-to wanted (passed ++ m ∷ []) more token word rest (subst P (sym (regroup passed m more)) ends)
    (λ front early back split.
    let Q : List SkipKind → Type 0 = λ xs. end_behind wanted xs early ≡ None in
    subst Q (sym (regroup passed m front)) (least (m ∷ front) early back (ap (λ xs. m ∷ xs) split)))

joined : (b : Bool) (o : Option SkipEnd) (word : SkipEnd) → IsTrue b → o ≡ Some word → cond b o None ≡ Some word
joined true o word h e = e
joined false o word h e = cc

pub word-ends-skip : WordEndsSkip
word-ends-skip wanted tokens word rest r =
    ap (λ xs. skip wanted xs) r.split
    ∙ up-to wanted [] r.passed r.token word rest
    (joined (is_balanced r.passed) (wanted_word wanted r.token) word r.balanced r.is_wanted) r.least
