use Rattle.std.proofs.Common.{◌∙◌, ap}
use Rattle.tx_input.specs.Owned.{has_number}
use Rattle.tx_input.proofs.OwnedLemmas.{found-any, has-reversed}
use Rattle.tx_input.proofs.owned.OwnNames.has.Goals as goal

pub returns : goal.returns
returns c =
    c.contains_key.ensures
    ∙ found-any c.self.inside.ends.entries c.args.number
    ∙ has-reversed c.self.inside.ends.entries c.args.number
    ∙ ap (has_number c.args.number) c.self.view_is
