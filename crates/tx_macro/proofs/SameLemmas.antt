-- Tokens that count as the same are equal, and a delimiter stands where the tokens begin with it.
use Rattle.std.proofs.Common.{◌≡◌, ℕ, ◌+◌, ◌<◌, Bool, true, false, cond, ◌&&◌, eqb, List, [], ◌∷◌, ◌++◌, length, refl, sym, ◌∙◌, ap, arith}
use Rattle.std.proofs.lemmas.Bool.{eqb-true, eq-eqb}
use Rattle.tx_model.specs.declared.category.Cat.{Cat}
use Rattle.tx_model.specs.declared.category.Cat.TheVariants as cat
use Rattle.tx_tok.specs.declared.tok.Tok.{Tok}
use Rattle.tx_tok.specs.declared.tok.Tok.TheVariants as tok
use Rattle.tx_macro.specs.Outcome.{place, same, Stands, Within, Differs, standing}
use Rattle.tx_macro.specs.Laws.{SameIsEqual}

-- the category at a place in their order
abbrev category_at : ℕ → Cat
category_at n =
    cond (eqb n 0) cat.Escape (cond (eqb n 1) cat.Begin (cond (eqb n 2) cat.End (cond (eqb n 3) cat.Math
    (cond (eqb n 4) cat.Tab (cond (eqb n 5) cat.LineEnd (cond (eqb n 6) cat.Parameter (cond (eqb n 7) cat.Superscript
    (cond (eqb n 8) cat.Subscript (cond (eqb n 9) cat.Ignored (cond (eqb n 10) cat.Space (cond (eqb n 11) cat.Letter
    (cond (eqb n 12) cat.Other (cond (eqb n 13) cat.Active (cond (eqb n 14) cat.Comment cat.Invalid))))))))))))))

category_at-place : (c : Cat) → category_at (place c) ≡ c
category_at-place cat.Escape = refl
category_at-place cat.Begin = refl
category_at-place cat.End = refl
category_at-place cat.Math = refl
category_at-place cat.Tab = refl
category_at-place cat.LineEnd = refl
category_at-place cat.Parameter = refl
category_at-place cat.Superscript = refl
category_at-place cat.Subscript = refl
category_at-place cat.Ignored = refl
category_at-place cat.Space = refl
category_at-place cat.Letter = refl
category_at-place cat.Other = refl
category_at-place cat.Active = refl
category_at-place cat.Comment = refl
category_at-place cat.Invalid = refl

same-place : (c d : Cat) → place c ≡ place d → c ≡ d
same-place c d e = sym (category_at-place c) ∙ ap category_at e ∙ category_at-place d

pub both : (a b : Bool) → (a && b) ≡ true → (a ≡ true) × (b ≡ true)
both true b e = (refl, e)
both false b e = cc

pub same-is-equal : SameIsEqual
same-is-equal (tok.Char c b) (tok.Char d e) h =
    let parts = both (eqb (place c) (place d)) (eqb b e) h in
    ap (λ x. tok.Char x b) (same-place c d (eqb-true (place c) (place d) parts.0)) ∙ ap (λ y. tok.Char d y) (eqb-true b e parts.1)
same-is-equal (tok.Char c b) (tok.Name m) h = cc
same-is-equal (tok.Char c b) (tok.Active m) h = cc
same-is-equal (tok.Char c b) (tok.Param m) h = cc
same-is-equal (tok.Char c b) tok.Stop h = cc
same-is-equal (tok.Name n) (tok.Name m) h = ap (λ x. tok.Name x) (eqb-true n m h)
same-is-equal (tok.Name n) (tok.Char c b) h = cc
same-is-equal (tok.Name n) (tok.Active m) h = cc
same-is-equal (tok.Name n) (tok.Param m) h = cc
same-is-equal (tok.Name n) tok.Stop h = cc
same-is-equal (tok.Active n) (tok.Active m) h = ap (λ x. tok.Active x) (eqb-true n m h)
same-is-equal (tok.Active n) (tok.Char c b) h = cc
same-is-equal (tok.Active n) (tok.Name m) h = cc
same-is-equal (tok.Active n) (tok.Param m) h = cc
same-is-equal (tok.Active n) tok.Stop h = cc
same-is-equal (tok.Param n) (tok.Param m) h = ap (λ x. tok.Param x) (eqb-true n m h)
same-is-equal (tok.Param n) (tok.Char c b) h = cc
same-is-equal (tok.Param n) (tok.Name m) h = cc
same-is-equal (tok.Param n) (tok.Active m) h = cc
same-is-equal (tok.Param n) tok.Stop h = cc
same-is-equal tok.Stop tok.Stop h = refl
same-is-equal tok.Stop (tok.Char c b) h = cc
same-is-equal tok.Stop (tok.Name m) h = cc
same-is-equal tok.Stop (tok.Active m) h = cc
same-is-equal tok.Stop (tok.Param m) h = cc

pub and-true : (a b : Bool) → a ≡ true → b ≡ true → (a && b) ≡ true
and-true a b e f = rw (e, f) refl

pub same-itself : (t : Tok) → same t t ≡ true
same-itself (tok.Char c b) = and-true (eqb (place c) (place c)) (eqb b b) (eq-eqb (place c) (place c) refl) (eq-eqb b b refl)
same-itself (tok.Name n) = eq-eqb n n refl
same-itself (tok.Active n) = eq-eqb n n refl
same-itself (tok.Param n) = eq-eqb n n refl
same-itself tok.Stop = refl

front-by : (p t : Tok) (delimiter tokens later : List Tok) → (standing delimiter tokens ≡ Stands later → tokens ≡ delimiter ++ later) →
    (b : Bool) → same p t ≡ b → cond b (standing delimiter tokens) Differs ≡ Stands later → t ∷ tokens ≡ p ∷ delimiter ++ later
front-by p t delimiter tokens later ih true is e =
    ap (λ x. x ∷ tokens) (sym (same-is-equal p t is)) ∙ ap (λ xs. p ∷ xs) (ih e)
front-by p t delimiter tokens later ih false is e = cc

-- where a delimiter stands, the tokens are it and what follows
pub standing-equal : (delimiter tokens later : List Tok) → standing delimiter tokens ≡ Stands later → tokens ≡ delimiter ++ later
standing-equal [] tokens later e = cc
standing-equal (p ∷ delimiter) [] later e = cc
standing-equal (p ∷ delimiter) (t ∷ tokens) later e =
    front-by p t delimiter tokens later (standing-equal delimiter tokens later) (same p t) refl e

-- a delimiter stands before what follows it
pub standing-itself : (delimiter later : List Tok) → standing delimiter (delimiter ++ later) ≡ Stands later
standing-itself [] later = refl
standing-itself (p ∷ delimiter) later =
    ap (λ b. cond b (standing delimiter (delimiter ++ later)) Differs) (same-itself p) ∙ standing-itself delimiter later

within-by : (delimiter tokens : List Tok) → (standing delimiter tokens ≡ Within → length tokens < length delimiter) →
    (b : Bool) → cond b (standing delimiter tokens) Differs ≡ Within → length tokens + 1 < length delimiter + 1
within-by delimiter tokens ih true e = let h = ih e in omega arith
within-by delimiter tokens ih false e = cc

-- tokens end within a delimiter only if they are fewer
pub within-fewer : (delimiter tokens : List Tok) → standing delimiter tokens ≡ Within → length tokens < length delimiter
within-fewer [] tokens e = cc
within-fewer (p ∷ delimiter) [] e = omega arith
within-fewer (p ∷ delimiter) (t ∷ tokens) e =
    let h = within-by delimiter tokens (within-fewer delimiter tokens) (same p t) e in omega (arith, h)
