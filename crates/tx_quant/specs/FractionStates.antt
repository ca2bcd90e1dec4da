-- The decimals that were taken.
use Rattle.std.specs.Prelude.{ℕ, List, take}
use Rattle.tx_quant.specs.declared.decimals.Decimals.{Decimals}

abbrev pub decimals_in : Decimals → List ℕ
decimals_in d = take d.count d.digits
