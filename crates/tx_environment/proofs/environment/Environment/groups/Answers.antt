use Rattle.std.proofs.Common.{arith}
use Rattle.tx_eqtb.specs.Meanings.{meanings}
use Rattle.tx_eqtb.specs.Tables.{now, before}
use Rattle.tx_save.specs.Saves.{groups, outside}
use Rattle.tx_environment.proofs.LevelLemmas.{length-groups}
use Rattle.tx_environment.proofs.StepLemmas.{length-outside}
use Rattle.tx_environment.proofs.environment.Environment.groups.Goals as goal

pub returns-clause-count : goal.returns-clause-count
returns-clause-count c view frozen =
    let over = c.self.inside.over in
    let save = c.self.inside.save in
    let count = length-groups view (now frozen over) (outside frozen over save) (groups save) (length-outside frozen over save) in
    rw (← c.self.view_is) (omega (arith, count, c.self.invariant.level, c.level.ensures.level))
