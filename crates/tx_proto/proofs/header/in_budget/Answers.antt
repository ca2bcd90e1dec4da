use Rattle.tx_proto.proofs.HeaderLemmas.{no-more-budget}
use Rattle.tx_proto.proofs.header.in_budget.Goals as goal

pub returns-in-None : goal.returns-in-None
returns-in-None c = no-more-budget c.args.budget c.args.byte c.requires c.if-byte-eq32.false c.in-None.ensures.none
