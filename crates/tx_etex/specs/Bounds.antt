-- Bounds of amounts.
use Rattle.std.specs.Prelude.{ℕ, ◌<◌, ◌^◌, unsigned_abs}
use Rattle.tx_num.specs.declared.quantities.QuantKind.{QuantKind}
use Rattle.tx_etex.specs.declared.amount.Amount.{Amount}
use Rattle.tx_etex.specs.Expressions.{width_limit}

-- each part is below a limit in absolute value
pub record IsBelow (limit : ℕ) (a : Amount) : Type 0 where
  pub width : unsigned_abs a.width < limit
  pub stretch : unsigned_abs a.stretch.size < limit
  pub shrink : unsigned_abs a.shrink.size < limit

-- each part is in the range of a kind
pub record IsInRange (kind : QuantKind) (a : Amount) : Type 0 where
  pub width : unsigned_abs a.width < width_limit kind
  pub stretch : unsigned_abs a.stretch.size < 2 ^ 30
  pub shrink : unsigned_abs a.shrink.size < 2 ^ 30
