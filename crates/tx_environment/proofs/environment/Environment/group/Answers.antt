use Rattle.std.proofs.Common.{sym, ◌∙◌}
use Rattle.tx_eqtb.specs.Meanings.{meanings}
use Rattle.tx_eqtb.specs.Tables.{now, before}
use Rattle.tx_save.specs.Saves.{groups, outside}
use Rattle.tx_environment.proofs.LevelLemmas.{innermost-is}
use Rattle.tx_environment.proofs.StepLemmas.{length-outside, none-open}
use Rattle.tx_environment.proofs.environment.Environment.group.Goals as goal

pub returns-clause-kind : goal.returns-clause-kind
returns-clause-kind c view frozen =
    let over = c.self.inside.over in
    let save = c.self.inside.save in
    rw (← c.self.view_is) (c.innermost.ensures ∙ sym (innermost-is view (now frozen over) (outside frozen over save) (groups save) (length-outside frozen over save)))

pub returns-clause-outermost : goal.returns-clause-outermost
returns-clause-outermost c = rw (← c.self.view_is) (none-open (λ g. g.kind) (groups c.self.inside.save) c.innermost.result c.innermost.ensures)
