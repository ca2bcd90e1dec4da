-- The value of an expression without quotients.
use Rattle.std.proofs.Common.{◌≡◌, Bool, true, false, cond, Option, Some, None, refl, ap, ◌∙◌}
use Rattle.std.specs.Prelude.{◌+ℤ◌, ◌*ℤ◌, neg_ℤ}
use Rattle.tx_num.specs.declared.quantities.QuantKind.{QuantKind}
use Rattle.tx_num.specs.declared.quantities.QuantKind.TheVariants as quant_kind
use Rattle.tx_etex.specs.declared.amount.Amount.{Amount}
use Rattle.tx_etex.specs.Expressions.{amount_of, amount_sum, amount_difference, amount_times, Tree, Quantity, Inner, Sum, Difference, Product, Quotient, is_in_range, within, combined, exact}
use Rattle.tx_etex.specs.Laws.{HasNoQuotient, arithmetic, ValueIsArithmetic}

kept : (b : Bool) (x y : Amount) → cond b (Some x) None ≡ Some y → x ≡ y
kept true x y e = cc
kept false x y e = cc

-- what is in range is the exact amount
pub within-some : (kind : QuantKind) (x : Option Amount) (a : Amount) → within kind x ≡ Some a → x ≡ Some a
within-some kind None a e = e
within-some kind (Some b) a e = ap (λ x. Some x) (kept (is_in_range kind b) b a e)

-- both operands have amounts
pub record Operands (f : Amount → Amount → Amount) (x y : Option Amount) (r : Amount) : Type 0 where
  pub a : Amount
  pub b : Amount
  pub left : x ≡ Some a
  pub right : y ≡ Some b
  pub is : r ≡ f a b

pub operands : (f : Amount → Amount → Amount) (x y : Option Amount) (r : Amount) →
    combined f x y ≡ Some r → Operands f x y r
operands f None y r e = cc
operands f (Some a) None r e = cc
operands f (Some a) (Some b) r e = record { a = a; b = b; left = refl; right = refl; is = cc }

exact-arithmetic : (kind : QuantKind) (t : Tree) (a : Amount) →
    HasNoQuotient t → exact kind t ≡ Some a → a.width ≡ arithmetic t
exact-arithmetic kind (Quantity q) a h e = let same : a ≡ amount_of q = cc in ap (λ x. x.width) same
exact-arithmetic kind (Inner t) a h e = exact-arithmetic kind t a h (within-some kind (exact kind t) a e)
exact-arithmetic kind (Sum x y) a h e =
    let o = operands amount_sum (within kind (exact kind x)) (within kind (exact kind y)) a e in
    let l = exact-arithmetic kind x o.a h.0 (within-some kind (exact kind x) o.a o.left) in
    let r = exact-arithmetic kind y o.b h.1 (within-some kind (exact kind y) o.b o.right) in
    ap (λ z. z.width) o.is ∙ ap (λ z. z +ℤ o.b.width) l ∙ ap (λ z. arithmetic x +ℤ z) r
exact-arithmetic kind (Difference x y) a h e =
    let o = operands amount_difference (within kind (exact kind x)) (within kind (exact kind y)) a e in
    let l = exact-arithmetic kind x o.a h.0 (within-some kind (exact kind x) o.a o.left) in
    let r = exact-arithmetic kind y o.b h.1 (within-some kind (exact kind y) o.b o.right) in
    ap (λ z. z.width) o.is ∙ ap (λ z. z +ℤ neg_ℤ o.b.width) l ∙ ap (λ z. arithmetic x +ℤ neg_ℤ z) r
exact-arithmetic kind (Product x y) a h e =
    let o = operands amount_times (within kind (exact kind x)) (within quant_kind.Int (exact quant_kind.Int y)) a e in
    let l = exact-arithmetic kind x o.a h.0 (within-some kind (exact kind x) o.a o.left) in
    let r = exact-arithmetic quant_kind.Int y o.b h.1 (within-some quant_kind.Int (exact quant_kind.Int y) o.b o.right) in
    ap (λ z. z.width) o.is ∙ ap (λ z. z *ℤ o.b.width) l ∙ ap (λ z. arithmetic x *ℤ z) r
exact-arithmetic kind (Quotient x y) a h e = absurd h

pub value-is-arithmetic : ValueIsArithmetic
value-is-arithmetic kind t a h e = exact-arithmetic kind t a h (within-some kind (exact kind t) a e)
