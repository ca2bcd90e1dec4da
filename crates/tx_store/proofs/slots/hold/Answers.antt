use Rattle.std.proofs.Common.{◌+◌, ◌==◌, length, position, ap, sym, ◌∙◌, refl, arith}
use Rattle.tx_store.specs.Plain.{total}
use Rattle.tx_store.proofs.SlotLemmas.{found-free, past-free, set-holds, push-holds}
use Rattle.tx_store.proofs.slots.hold.Goals as goal

pub returns-in-Some-clause-free : goal.returns-in-Some-clause-free
returns-in-Some-clause-free c =
    let found = ap (position (λ s. s.count == 0)) (sym c.as_slice.ensures.value) ∙ sym c.free_place.ensures ∙ c.in-Some.is in
    (found-free c.args.slots.now.items c.in-Some.place c.index_mut.result.now found c.index_mut.ensures.value).free

pub returns-in-Some-clause-ok : goal.returns-in-Some-clause-ok
returns-in-Some-clause-ok c =
    let slots = c.args.slots.now.items in
    let slot = c.index_mut.result.now in
    let found = ap (position (λ s. s.count == 0)) (sym c.as_slice.ensures.value) ∙ sym c.free_place.ensures ∙ c.in-Some.is in
    let free = found-free slots c.in-Some.place slot found c.index_mut.ensures.value in
    let none = free.count in
    let made = c.in_ok-to_vec.ensures.items_if_clones_equal (λ x y same. same) in
    set-holds slots c.in-Some.place slot c.in_ok-to_vec.field-0.items c.args.content.now 1 1 (total slots + 1) free.within c.index_mut.ensures.value (sym made) refl (omega (arith, none))

pub returns-in_ok-push-in-None-clause-free : goal.returns-in_ok-push-in-None-clause-free
returns-in_ok-push-in-None-clause-free c = past-free c.args.slots.now.items (length c.as_slice-place.result.now) (ap length c.as_slice-place.ensures.value)

pub returns-in_ok-push-in-None-clause-ok : goal.returns-in_ok-push-in-None-clause-ok
returns-in_ok-push-in-None-clause-ok c =
    let made = c.in_ok-to_vec.ensures.items_if_clones_equal (λ x y same. same) in
    push-holds c.args.slots.now.items c.push.new.self.items (length c.as_slice-place.result.now) c.in_ok-to_vec.field-0.items c.args.content.now (ap length c.as_slice-place.ensures.value) made c.in_ok-push-in-None.ensures.items
