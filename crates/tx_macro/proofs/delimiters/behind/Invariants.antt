use Rattle.std.proofs.Common.{◌≡◌, ◌++◌, drop}
use Rattle.tx_macro.specs.Outcome.{behind as behind_of}
use Rattle.tx_macro.proofs.delimiters.behind.Given as goal

abbrev pub invariant-loop-i : goal.invariant-loop-i
invariant-loop-i l = l.delimiters.items ++ behind_of (drop l.i l.params) ≡ behind_of l.params
