-- Expressions (e-TeX manual): trees of quantities, sums, products and quotients, and their exact values.
use Rattle.std.specs.Prelude.{ℕ, ◌==◌, ◌&&◌, ◌^◌, nat_lt, Bool, if◌then◌else◌, Option, Some, None, ℤ, pos, ◌+ℤ◌, ◌*ℤ◌, neg_ℤ, unsigned_abs}
use Rattle.tx_num.specs.declared.glue.Order.{Order}
use Rattle.tx_num.specs.declared.glue.Order.TheVariants as order
use Rattle.tx_num.specs.declared.quantities.Quant.{Quant}
use Rattle.tx_num.specs.declared.quantities.Quant.TheVariants as quant
use Rattle.tx_num.specs.declared.quantities.QuantKind.{QuantKind}
use Rattle.tx_num.specs.declared.quantities.QuantKind.TheVariants as quant_kind
use Rattle.tx_num.specs.Quotients.{rounded_quotient}
use Rattle.tx_etex.specs.declared.amount.Amount.{Amount}
use Rattle.tx_etex.specs.declared.amount.Flex.{Flex}

abbrev pub rigid : ℤ → Amount
rigid width = record {
  width = width;
  stretch = record { size = pos 0; order = order.Finite };
  shrink = record { size = pos 0; order = order.Finite };
}

abbrev pub amount_of : Quant → Amount
amount_of (quant.Int n) = rigid n
amount_of (quant.Dim d) = rigid d
amount_of (quant.Glue g) = record {
  width = g.width;
  stretch = record { size = g.stretch; order = g.stretch_order };
  shrink = record { size = g.shrink; order = g.shrink_order };
}
amount_of (quant.Mu g) = record {
  width = g.width;
  stretch = record { size = g.stretch; order = g.stretch_order };
  shrink = record { size = g.shrink; order = g.shrink_order };
}

-- an expression as it is read
pub data Tree : Type 0 where
  Quantity : Quant → Tree
  -- one in parentheses
  Inner : Tree → Tree
  Sum : Tree → Tree → Tree
  Difference : Tree → Tree → Tree
  Product : Tree → Tree → Tree
  Quotient : Tree → Tree → Tree

abbrev pub rank : Order → ℕ
rank order.Finite = 0
rank order.Fil = 1
rank order.Fill = 2
rank order.Filll = 3

-- a stretch of 0 is finite
abbrev pub normal : Flex → Flex
normal f = if unsigned_abs f.size == 0 then record { size = pos 0; order = order.Finite } else f

-- of two stretches of one order the sum or difference; else the one of the higher order counts alone, with
-- its sign, in a difference too
abbrev pub higher_or_both : (ℤ → ℤ → ℤ) → Flex → Flex → Flex
higher_or_both f a b =
    if nat_lt (rank a.order) (rank b.order) then b
    else if nat_lt (rank b.order) (rank a.order) then a
    else normal (record { size = f a.size b.size; order = a.order })

abbrev pub flex_by : (ℤ → ℤ → ℤ) → Flex → Flex → Flex
flex_by f a b = higher_or_both f (normal a) (normal b)

abbrev pub amount_by : (ℤ → ℤ → ℤ) → Amount → Amount → Amount
amount_by f a b = record {
  width = f a.width b.width;
  stretch = flex_by f a.stretch b.stretch;
  shrink = flex_by f a.shrink b.shrink;
}

abbrev pub amount_sum : Amount → Amount → Amount
amount_sum a b = amount_by (λ x y. x +ℤ y) a b

abbrev pub amount_difference : Amount → Amount → Amount
amount_difference a b = amount_by (λ x y. x +ℤ neg_ℤ y) a b

-- each part of the amount, changed alike
abbrev pub each : (ℤ → ℤ) → Amount → Amount
each f a = record {
  width = f a.width;
  stretch = record { size = f a.stretch.size; order = a.stretch.order };
  shrink = record { size = f a.shrink.size; order = a.shrink.order };
}

-- an amount times an integer
abbrev pub amount_times : Amount → Amount → Amount
amount_times a n = each (λ z. z *ℤ n.width) a

-- an integer is below 2^31 in absolute value, any other part below 2^30
abbrev pub width_limit : QuantKind → ℕ
width_limit quant_kind.Int = 2 ^ 31
width_limit _ = 2 ^ 30

abbrev pub is_in_range : QuantKind → Amount → Bool
is_in_range kind a =
    nat_lt (unsigned_abs a.width) (width_limit kind) && nat_lt (unsigned_abs a.stretch.size) (2 ^ 30)
    && nat_lt (unsigned_abs a.shrink.size) (2 ^ 30)

-- the amount, where it is in range
abbrev pub within : QuantKind → Option Amount → Option Amount
within kind None = None
within kind (Some a) = if is_in_range kind a then Some a else None

abbrev pub combined : (Amount → Amount → Amount) → Option Amount → Option Amount → Option Amount
combined f None b = None
combined f (Some a) None = None
combined f (Some a) (Some b) = Some (f a b)

-- an amount over an integer, each part to the nearest whole number, a tie away from zero
abbrev pub quotient : Option Amount → Option Amount → Option Amount
quotient None n = None
quotient (Some a) None = None
quotient (Some a) (Some n) =
    if unsigned_abs n.width == 0 then None else Some (each (λ z. rounded_quotient z n.width) a)

-- what is divided: a product as it is, and anything else where it is in range
abbrev pub dividend : QuantKind → Tree → Option Amount → Option Amount
dividend kind (Product a b) exact = exact
dividend kind _ exact = within kind exact

-- the exact amount of a tree of that kind, of which each part is in range, but a product right before a
-- quotient; what a tree is multiplied with or divided by is an integer
abbrev pub exact : QuantKind → Tree → Option Amount
exact kind (Quantity q) = Some (amount_of q)
exact kind (Inner t) = within kind (exact kind t)
exact kind (Sum a b) = combined amount_sum (within kind (exact kind a)) (within kind (exact kind b))
exact kind (Difference a b) = combined amount_difference (within kind (exact kind a)) (within kind (exact kind b))
exact kind (Product a b) = combined amount_times (within kind (exact kind a)) (within quant_kind.Int (exact quant_kind.Int b))
exact kind (Quotient a b) = quotient (dividend kind a (exact kind a)) (within quant_kind.Int (exact quant_kind.Int b))

-- the value of an expression; none, which is an overflow, where a part is out of range or a divisor is 0
abbrev pub value : QuantKind → Tree → Option Amount
value kind t = within kind (exact kind t)
