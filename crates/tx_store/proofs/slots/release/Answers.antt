use Rattle.tx_store.proofs.SlotLemmas.{released}
use Rattle.tx_store.proofs.slots.release.Goals as goal

pub returns : goal.returns
returns c = released c.args.slots.now.items c.args.id c.index_mut.result.now c.requires c.index_mut.ensures.value
