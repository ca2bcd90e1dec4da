use Rattle.tx_proto.proofs.BreakLemmas.{reads-once}
use Rattle.tx_proto.proofs.laws.one_reading.Goals as goal

pub returns : goal.returns
returns c = reads-once
