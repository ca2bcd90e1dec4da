use Rattle.std.proofs.Common.{◌∙◌}
use Rattle.tx_eqtb.specs.Meanings.{meanings}
use Rattle.tx_eqtb.specs.Tables.{now, before}
use Rattle.tx_save.specs.Saves.{groups, outside}
use Rattle.tx_views.specs.Environments.{environment_of}
use Rattle.tx_environment.proofs.LevelLemmas.{begun-is}
use Rattle.tx_environment.proofs.environment.Environment.begin.Goals as goal

pub returns-clause-begun : goal.returns-clause-begun
returns-clause-begun c view frozen =
    let over = c.self.inside.over in
    let save = c.self.inside.save in
    let maps = c.in_ok-begin.ensures.maps (before frozen over) (now frozen over) in
    let open_are = c.in_ok-begin.ensures.groups in
    rw (← c.self.view_is) ((λ i. environment_of view (now frozen over) (maps i) (open_are i)) ∙ begun-is view (now frozen over) (outside frozen over save) (groups save) c.args.kind)
