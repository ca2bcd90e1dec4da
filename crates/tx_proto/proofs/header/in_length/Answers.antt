use Rattle.tx_proto.proofs.HeaderLemmas.{no-more-length}
use Rattle.tx_proto.proofs.header.in_length.Goals as goal

pub returns-in-None : goal.returns-in-None
returns-in-None c = no-more-length c.args.budget c.args.length c.args.byte c.requires.budget c.requires.length c.if-byte-eq10.false c.in-None.ensures.none
