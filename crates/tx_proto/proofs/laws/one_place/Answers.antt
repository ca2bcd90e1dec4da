use Rattle.tx_proto.proofs.BreakLemmas.{breaks-once}
use Rattle.tx_proto.proofs.laws.one_place.Goals as goal

pub returns : goal.returns
returns c = breaks-once
