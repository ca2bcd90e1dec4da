-- Factors of units.
use Rattle.std.specs.Prelude.{ℕ, Bool}
use Rattle.tx_quant.specs.declared.factor.Factor.{Factor}

abbrev pub factor : Bool → ℕ → ℕ → Factor
factor negative whole fraction = record { negative = negative; whole = whole; fraction = fraction }
