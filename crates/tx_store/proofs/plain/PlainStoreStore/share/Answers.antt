use Rattle.std.proofs.Common.{rules, ◌≡◌, ◌≢◌, [], sym, ◌∙◌}
use Rattle.tx_store.proofs.ListLemmas.{after-found, after-shared}
use Rattle.tx_store.proofs.plain.PlainStoreStore.share.Goals as goal

pub returns-in-Some-clause-ok : goal.returns-in-Some-clause-ok
returns-in-Some-clause-ok c =
    after-found c.self.inside.format.now c.self.inside.names.texts c.self.inside.slots.items c.args.self.now c.args.content.now c.in-Some.place c.self.view_is
    (sym c.list_number.ensures ∙ c.in-Some.is)

pub returns-clause-ok : goal.returns-clause-ok
returns-clause-ok c =
    let some : c.args.content.now ≢ [] = search rules in
    after-shared c.self.inside.format.now c.self.inside.names.texts c.self.inside.slots.items c.hold.new.slots.items c.args.self.now c.args.content.now c.in_ok-id.id c.self.view_is
    some (sym c.list_number.ensures ∙ c.in_default.is) c.in_ok-id.ensures.free c.in_ok-id.ensures.ok
