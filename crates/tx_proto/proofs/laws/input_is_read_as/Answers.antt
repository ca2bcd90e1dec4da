use Rattle.tx_proto.proofs.SessionLemmas.{reads-as}
use Rattle.tx_proto.proofs.laws.input_is_read_as.Goals as goal

pub returns : goal.returns
returns c = reads-as
