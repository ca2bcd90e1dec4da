use Rattle.std.proofs.Common.{◌≡◌, ◌<◌, drop}
use Rattle.tx_num.specs.Decimals.{decimals_scaled}
use Rattle.tx_num.proofs.decimals.round_digits.Given as goal

abbrev pub invariant-loop-i : goal.invariant-loop-i
invariant-loop-i l = record {
  small : l.scaled < 131072;
  value : l.scaled ≡ decimals_scaled (drop l.i l.digits);
}
