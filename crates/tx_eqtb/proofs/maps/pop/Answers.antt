use Rattle.tx_eqtb.proofs.EntryLemmas.{popped}
use Rattle.tx_eqtb.proofs.maps.pop.Goals as goal

pub returns-clause-value : goal.returns-clause-value
returns-clause-value g c = popped c.args.map.now c.pop.new.self c.pop.result c.pop.ensures.entries c.pop.ensures.updates
