use Rattle.std.proofs.Common.{◌≡◌, ◌++◌, drop}
use Rattle.tx_macro.specs.Outcome.{front as front_of}
use Rattle.tx_macro.proofs.delimiters.front.Given as goal

abbrev pub invariant-loop-token : goal.invariant-loop-token
invariant-loop-token l = l.tokens.items ++ front_of (drop l.token-index l.params) ≡ front_of l.params
