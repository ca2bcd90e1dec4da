use Rattle.std.proofs.Common.{arith}
use Rattle.std.proofs.lemmas.Grind.{common_steps}
use Rattle.tx_describe.proofs.tokens.text_tokens.Goals as goal

pub loop-byte-preserved : goal.loop-byte-preserved
loop-byte-preserved c view = grind (arith, common_steps, c.loop-byte.invariant view, c.byte_token.ensures view)

pub returns : goal.returns
returns c view = grind (arith, common_steps, c.loop-byte.invariant view)
