use Rattle.tx_proto.proofs.BreakLemmas.{breaks-left}
use Rattle.tx_proto.proofs.laws.breaks_in_what_is_left.Goals as goal

pub returns : goal.returns
returns c = breaks-left
