use Rattle.std.proofs.Common.{subst}
use Rattle.tx_frames.specs.Knowledge.{KnowsValue}
use Rattle.tx_frames.proofs.list.text_value_given.Goals as goal

pub returns-in-Tokens-clause-knows : goal.returns-in-Tokens-clause-knows
returns-in-Tokens-clause-knows c known v = (subst (λ x. KnowsValue known x) c.in-Tokens.is v)
