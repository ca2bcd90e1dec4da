use Rattle.std.proofs.Common.{◌≡◌, drop}
use Rattle.tx_macro.specs.Settling.{begins}
use Rattle.tx_macro.proofs.delimiters.may_stand.Given as goal

abbrev pub invariant-loop-i : goal.invariant-loop-i
invariant-loop-i l = begins (drop l.i l.delimiter) (drop l.i l.tokens) ≡ begins l.delimiter l.tokens
