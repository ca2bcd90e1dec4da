use Rattle.std.proofs.Common.{sym, ◌∙◌}
use Rattle.tx_store.proofs.NameLemmas.{of-format, after-known, sound-interned, after-interned}
use Rattle.tx_store.proofs.plain.PlainStoreStore.intern.Goals as goal

pub returns-in-Some-clause-ok : goal.returns-in-Some-clause-ok
returns-in-Some-clause-ok c =
    let format = c.self.inside.format.now in
    let texts = c.self.inside.names.texts in
    after-known format texts c.self.inside.slots.items c.args.self.now c.args.text.now c.in-Some.number c.self.view_is c.self.invariant.1
    (of-format format.names texts c.args.text.now c.in-Some.number (sym c.number_of.ensures ∙ c.in-Some.is))

pub invariant_of-self : goal.invariant_of-self
invariant_of-self c =
    sound-interned c.self.inside.format.now c.self.inside.names c.intern.new.self c.self.inside.slots.items c.args.text.now c.self.invariant.0 c.self.invariant.1
    (sym c.number_of.ensures ∙ c.in_default.is) c.intern.result c.intern.ensures.present c.intern.ensures.absent c.intern.ensures.err

pub returns-clause-ok : goal.returns-clause-ok
returns-clause-ok c =
    after-interned c.self.inside.format.now c.self.inside.names c.intern.new.self c.self.inside.slots.items c.args.text.now c.self.invariant.0 c.self.invariant.1
    (sym c.number_of.ensures ∙ c.in_default.is) c.intern.result c.args.self.now c.self.view_is c.intern.ensures.number c.intern.ensures.present c.intern.ensures.absent
