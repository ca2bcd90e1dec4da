-- proofs/back/tokens/Invariants.antt
use Rattle.std.proofs.Common.{◌≡◌, take}
use Rattle.tx_amounts.specs.Backs.{given}
use Rattle.tx_amounts.proofs.back.tokens.Given as goal

abbrev pub invariant-loop-token : goal.invariant-loop-token
invariant-loop-token l = l.tokens.items ≡ given (take l.token-index l.taken)
