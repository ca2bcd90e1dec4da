use Rattle.std.proofs.Common.{sym, ◌∙◌}
use Rattle.tx_store.proofs.NameLemmas.{of-format, after-known, after-look}
use Rattle.tx_store.proofs.plain.PlainStoreStore.find.Goals as goal

pub returns-in-Some : goal.returns-in-Some
returns-in-Some c =
    let format = c.self.inside.format.now in
    let texts = c.self.inside.names.texts in
    after-known format texts c.self.inside.slots.items c.args.self.now c.args.text.now c.in-Some.number c.self.view_is c.self.invariant.1
    (of-format format.names texts c.args.text.now c.in-Some.number (sym c.number_of.ensures ∙ c.in-Some.is))

pub returns : goal.returns
returns c =
    after-look c.self.inside.format.now c.self.inside.names c.self.inside.slots.items c.args.self.now c.args.text.now c.find.result c.self.view_is c.self.invariant.0 c.self.invariant.1
    (sym c.number_of.ensures ∙ c.in_default.is) c.find.ensures
