use Rattle.std.proofs.Common.{◌≡◌, ap, arith}
use Rattle.tx_store.proofs.SlotLemmas.{held, taken, count-total}
use Rattle.tx_store.proofs.slots.take.Goals as goal

pub overflow_add-index_mut : goal.overflow_add-index_mut
overflow_add-index_mut c =
    let slots = c.args.slots.now.items in
    let slot = c.index_mut.result.now in
    let h = held slots c.args.id slot c.requires.held c.index_mut.ensures.value in
    let bound = count-total slots c.args.id slot h.within in
    let same : slot.count ≡ _ = ap (λ s. s.count) c.index_mut.ensures.value in
    let room = c.requires.room in
    omega (arith, bound, same, room)

pub returns : goal.returns
returns c = taken c.args.slots.now.items c.args.id c.index_mut.result.now c.requires.held c.index_mut.ensures.value
