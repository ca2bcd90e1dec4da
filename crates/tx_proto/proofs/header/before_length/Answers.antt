use Rattle.tx_proto.proofs.HeaderLemmas.{no-length}
use Rattle.tx_proto.proofs.header.before_length.Goals as goal

pub returns-in-None : goal.returns-in-None
returns-in-None c = no-length c.args.budget c.args.byte c.in-None.ensures.none c.requires
