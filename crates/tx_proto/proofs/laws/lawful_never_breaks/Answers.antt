use Rattle.tx_proto.proofs.BreakLemmas.{never-breaks}
use Rattle.tx_proto.proofs.laws.lawful_never_breaks.Goals as goal

pub returns : goal.returns
returns c = never-breaks
