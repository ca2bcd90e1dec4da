use Rattle.tx_macro.specs.Matching.{IsOpen}
use Rattle.tx_macro.proofs.macro_match.tests.fed.Given as goal

abbrev pub invariant-loop-i : goal.invariant-loop-i
invariant-loop-i l = IsOpen l.matching
