-- An expression under way, in which what was read counts by its value.
use Rattle.std.specs.Prelude.{if◌then◌else◌, Option, Some, None}
use Rattle.tx_tok.specs.declared.tok.Tok.{Tok}
use Rattle.tx_num.specs.declared.quantities.QuantKind.{QuantKind}
use Rattle.tx_num.specs.declared.quantities.QuantKind.TheVariants as quant_kind
use Rattle.tx_etex.specs.declared.amount.Amount.{Amount}
use Rattle.tx_etex.specs.declared.sums.Sign.{Sign}
use Rattle.tx_etex.specs.declared.sums.Sign.TheVariants as sign
use Rattle.tx_etex.specs.declared.level.Before.{Before}
use Rattle.tx_etex.specs.declared.level.Before.TheVariants as before
use Rattle.tx_etex.specs.declared.level.Scale.{Scale}
use Rattle.tx_etex.specs.declared.level.Scale.TheVariants as scale
use Rattle.tx_etex.specs.declared.level.Level.{Level}
use Rattle.tx_etex.specs.Expressions.{amount_by, amount_times, within, combined, quotient}
use Rattle.tx_etex.specs.Signs.{signed_sum}
use Rattle.tx_etex.specs.Readings.{is_other}

-- the value of a product
abbrev pub product : QuantKind → Option Amount → Option Amount → Option Amount
product kind a n = combined amount_times (within kind a) (within quant_kind.Int n)

-- the value of a term that ends with this factor
abbrev pub scaled : QuantKind → Scale → Option Amount → Option Amount
scaled kind scale.Alone f = f
scaled kind (scale.Times a) f = product kind a f
scaled kind (scale.Over a) f = quotient (within kind a) (within quant_kind.Int f)
scaled kind (scale.TimesOver a n) f = quotient (product kind a n) (within quant_kind.Int f)

-- the value of a sum that ends with this term
abbrev pub added : QuantKind → Before → Option Amount → Option Amount
added kind before.Nothing t = t
added kind (before.Sum s sign) t = combined (amount_by (signed_sum sign)) (within kind s) (within kind t)

-- the value of the expression, where it ends with this factor
abbrev pub total : Level → Option Amount → Option Amount
total level f = added level.kind level.sum (scaled level.kind level.term f)

-- what a factor is multiplied with, or divided from, is an integer
abbrev pub due_in : QuantKind → Scale → QuantKind
due_in kind scale.Alone = kind
due_in kind _ = quant_kind.Int

abbrev pub due : Level → QuantKind
due level = due_in level.kind level.term

abbrev pub begun : QuantKind → Level
begun kind = record { kind = kind; sum = before.Nothing; term = scale.Alone }

-- a product that is divided is kept, since it may be out of range
abbrev pub divided : QuantKind → Scale → Option Amount → Scale
divided kind (scale.Times a) f = scale.TimesOver a f
divided kind term f = scale.Over (scaled kind term f)

abbrev pub behind_sign : Sign → Level → Option Amount → Level
behind_sign sign level f = record { kind = level.kind; sum = before.Sum (total level f) sign; term = scale.Alone }

abbrev pub behind_star : Level → Option Amount → Level
behind_star level f =
    record { kind = level.kind; sum = level.sum; term = scale.Times (scaled level.kind level.term f) }

abbrev pub behind_slash : Level → Option Amount → Level
behind_slash level f = record { kind = level.kind; sum = level.sum; term = divided level.kind level.term f }

-- the operator that a token is behind a factor, and up to where it leads
abbrev pub behind : Level → Option Amount → Tok → Option Level
behind level f t =
    if is_other 43 t then Some (behind_sign sign.Plus level f)
    else if is_other 45 t then Some (behind_sign sign.Minus level f)
    else if is_other 42 t then Some (behind_star level f)
    else if is_other 47 t then Some (behind_slash level f)
    else None
