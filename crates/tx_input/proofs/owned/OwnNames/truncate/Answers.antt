use Rattle.std.proofs.Common.{◌-◌, length, drop, reverse, ◌∙◌, ap}
use Rattle.tx_input.specs.Owned.{Own}
use Rattle.tx_input.proofs.OwnedLemmas.{reverse-take}
use Rattle.tx_input.proofs.owned.OwnNames.truncate.Goals as goal

pub returns : goal.returns
returns c =
    ap reverse c.truncate.ensures.entries
    ∙ reverse-take c.args.known c.self.inside.ends.entries
    ∙ ap (λ (own : Own). drop (length own - c.args.known) own) c.self.view_is
