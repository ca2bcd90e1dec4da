use Rattle.tx_names.proofs.TextLemmas.{distinct-map, table-joined}
use Rattle.tx_names.proofs.names.NameTable.join.Goals as goal

pub invariant_of-self-2 : goal.invariant_of-self-2
invariant_of-self-2 c = (
  c.self.invariant.0,
  distinct-map (λ v. v.items) c.self.inside.first c.insert.new.self.keys c.insert.ensures.unique,
)

pub returns-clause-texts : goal.returns-clause-texts
returns-clause-texts c =
    let made = c.in_ok-owned.ensures.items_if_clones_equal (λ x y same. same) in
    table-joined (λ v. v.items) c.self.inside.first c.self.inside.texts.keys c.insert.new.self.keys c.in_ok-owned.owned c.args.text.now c.args.self.now
    c.self.view_is made c.requires c.in_ok-insert.ensures.keys
