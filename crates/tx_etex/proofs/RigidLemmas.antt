-- An expression of integers never stretches or shrinks.
use Rattle.std.proofs.Common.{◌≡◌, ℕ, zero, suc, ◌==◌, Bool, true, false, cond, Option, Some, None, refl, ap, sym, ◌∙◌, arith}
use Rattle.std.specs.Prelude.{ℤ, pos, negsuc, neg_ℤ, ◌+ℤ◌, ◌*ℤ◌, unsigned_abs}
use Rattle.std.proofs.lemmas.Int.{ints}
use Rattle.std.proofs.Math.Nat.{div-eq_of_lt}
use Rattle.tx_num.specs.declared.quantities.Quant.TheVariants as quant
use Rattle.tx_num.specs.declared.quantities.QuantKind.TheVariants as quant_kind
use Rattle.tx_num.specs.Quotients.{nearest, rounded_quotient}
use Rattle.tx_etex.specs.declared.amount.Amount.{Amount}
use Rattle.tx_etex.specs.Expressions.{amount_sum, amount_difference, amount_times, each, Tree, Quantity, Inner, Sum, Difference, Product, Quotient, rigid, within, quotient, dividend, exact}
use Rattle.tx_etex.specs.Laws.{IntegersAreRigid}
use Rattle.tx_etex.proofs.ValueLemmas.{within-some, operands}

-- an amount is this one, which is rigid
rigid-from : (a : Amount) (z : ℤ) → a ≡ rigid z → a ≡ rigid a.width
rigid-from a z e = e ∙ ap rigid (sym (ap (λ x. x.width) e))

zero-times : (z : ℤ) → pos 0 *ℤ z ≡ pos 0
zero-times z = omega (arith, ints)

nearest-zero : (d : ℕ) → nearest 0 d ≡ 0
nearest-zero zero = refl
nearest-zero (suc d) = div-eq_of_lt (omega arith)

zero-over : (z : ℤ) → rounded_quotient (pos 0) z ≡ pos 0
zero-over (pos d) = ap pos (nearest-zero d)
zero-over (negsuc d) = ap (λ n. neg_ℤ (pos n)) (nearest-zero (suc d))

times-rigid : (x : ℤ) (n : Amount) → amount_times (rigid x) n ≡ rigid (x *ℤ n.width)
times-rigid x n = rw (zero-times n.width)

each-over-rigid : (x d : ℤ) → each (λ z. rounded_quotient z d) (rigid x) ≡ rigid (rounded_quotient x d)
each-over-rigid x d = rw (zero-over d)

kept : (b : Bool) (x y : Amount) → cond b None (Some x) ≡ Some y → x ≡ y
kept true x y e = cc
kept false x y e = cc

-- a quotient is of an amount that is there
record Divided (x : Option Amount) (r : Amount) : Type 0 where
  a : Amount
  d : ℤ
  left : x ≡ Some a
  is : each (λ z. rounded_quotient z d) a ≡ r

divided : (x y : Option Amount) (r : Amount) → quotient x y ≡ Some r → Divided x r
divided None y r e = cc
divided (Some a) None r e = cc
divided (Some a) (Some n) r e =
    record { a = a; d = n.width; left = refl; is = kept (unsigned_abs n.width == 0) (each (λ z. rounded_quotient z n.width) a) r e }

dividend-some : (t : Tree) (x : Option Amount) (a : Amount) → dividend quant_kind.Int t x ≡ Some a → x ≡ Some a
dividend-some (Product b c) x a e = e
dividend-some (Quantity q) x a e = within-some quant_kind.Int x a e
dividend-some (Inner t) x a e = within-some quant_kind.Int x a e
dividend-some (Sum b c) x a e = within-some quant_kind.Int x a e
dividend-some (Difference b c) x a e = within-some quant_kind.Int x a e
dividend-some (Quotient b c) x a e = within-some quant_kind.Int x a e

pub integers-are-rigid : IntegersAreRigid
integers-are-rigid (Quantity (quant.Int n)) a h e = let same : a ≡ rigid n = cc in rigid-from a n same
integers-are-rigid (Quantity (quant.Dim d)) a h e = cc
integers-are-rigid (Quantity (quant.Glue g)) a h e = cc
integers-are-rigid (Quantity (quant.Mu g)) a h e = cc
integers-are-rigid (Inner t) a h e = integers-are-rigid t a h (within-some quant_kind.Int (exact quant_kind.Int t) a e)
integers-are-rigid (Sum x y) a h e =
    let o = operands amount_sum (within quant_kind.Int (exact quant_kind.Int x)) (within quant_kind.Int (exact quant_kind.Int y)) a e in
    let l = integers-are-rigid x o.a h.0 (within-some quant_kind.Int (exact quant_kind.Int x) o.a o.left) in
    let r = integers-are-rigid y o.b h.1 (within-some quant_kind.Int (exact quant_kind.Int y) o.b o.right) in
    rigid-from a (o.a.width +ℤ o.b.width) (o.is ∙ ap (λ z. amount_sum z o.b) l ∙ ap (amount_sum (rigid o.a.width)) r)
integers-are-rigid (Difference x y) a h e =
    let o = operands amount_difference (within quant_kind.Int (exact quant_kind.Int x)) (within quant_kind.Int (exact quant_kind.Int y)) a e in
    let l = integers-are-rigid x o.a h.0 (within-some quant_kind.Int (exact quant_kind.Int x) o.a o.left) in
    let r = integers-are-rigid y o.b h.1 (within-some quant_kind.Int (exact quant_kind.Int y) o.b o.right) in
    rigid-from a (o.a.width +ℤ neg_ℤ o.b.width) (o.is ∙ ap (λ z. amount_difference z o.b) l ∙ ap (amount_difference (rigid o.a.width)) r)
integers-are-rigid (Product x y) a h e =
    let o = operands amount_times (within quant_kind.Int (exact quant_kind.Int x)) (within quant_kind.Int (exact quant_kind.Int y)) a e in
    let l = integers-are-rigid x o.a h.0 (within-some quant_kind.Int (exact quant_kind.Int x) o.a o.left) in
    rigid-from a (o.a.width *ℤ o.b.width) (o.is ∙ ap (λ z. amount_times z o.b) l ∙ times-rigid o.a.width o.b)
integers-are-rigid (Quotient x y) a h e =
    let o = divided (dividend quant_kind.Int x (exact quant_kind.Int x)) (within quant_kind.Int (exact quant_kind.Int y)) a e in
    let l = integers-are-rigid x o.a h.0 (dividend-some x (exact quant_kind.Int x) o.a o.left) in
    rigid-from a (rounded_quotient o.a.width o.d) (sym o.is ∙ ap (each (λ z. rounded_quotient z o.d)) l ∙ each-over-rigid o.a.width o.d)
