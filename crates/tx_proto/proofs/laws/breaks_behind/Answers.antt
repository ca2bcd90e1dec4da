use Rattle.tx_proto.proofs.BreakLemmas.{breaks-behind}
use Rattle.tx_proto.proofs.laws.breaks_behind.Goals as goal

pub returns : goal.returns
returns c = breaks-behind
