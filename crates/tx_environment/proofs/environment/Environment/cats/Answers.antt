use Rattle.std.proofs.Common.{sym, subst}
use Rattle.tx_eqtb.specs.Meanings.{meanings}
use Rattle.tx_eqtb.specs.Tables.{now, before}
use Rattle.tx_save.specs.Saves.{groups, outside}
use Rattle.tx_environment.specs.Soundness.{IsPresent}
use Rattle.tx_environment.proofs.CategoryLemmas.{categories-are}
use Rattle.tx_environment.proofs.environment.Environment.cats.Goals as goal

pub returns-clause-categories : goal.returns-clause-categories
returns-clause-categories c view frozen sound =
    let over = c.self.inside.over in
    let save = c.self.inside.save in
    let are = subst (IsPresent frozen) (sym c.self.view_is) sound.present in
    rw (← c.self.view_is) (categories-are view c.self.inside.cats (now frozen over) (outside frozen over save) (groups save) are)
