use Rattle.std.proofs.Common.{refl}
use Rattle.tx_store.proofs.NameLemmas.{sound-new, is-new}
use Rattle.tx_store.proofs.plain.PlainStore.new.Goals as goal

pub invariant_of-result : goal.invariant_of-result
invariant_of-result c = sound-new c.args.format.now.names c.names_len-first.result c.in_ok-names.names c.in_ok-names.ensures c.names_len-first.ensures c.is_sound.ensures.names

pub returns : goal.returns
returns c = is-new c.args.format.now c.in_ok-names.names.texts c.new-2.result.items
    (sound-new c.args.format.now.names c.names_len-first.result c.in_ok-names.names c.in_ok-names.ensures c.names_len-first.ensures c.is_sound.ensures.names).1
    c.new-2.ensures.items
