use Rattle.std.proofs.Common.{ap, subst, ◌≡◌, ◌∙◌, [], reverse}
use Rattle.tx_eqtb.specs.Tables.{noted, now, before}
use Rattle.tx_save.specs.Levels.{level_at}
use Rattle.tx_save.specs.Saves.{Fits, outside}
use Rattle.tx_save.proofs.SaveLemmas.{below-closed, depth-pos, fits-outermost}
use Rattle.tx_save.proofs.stack.SaveStack.level.Goals as goal

pub returns-clause-outermost : goal.returns-clause-outermost
returns-clause-outermost g c is table =
    subst (Fits table) c.self.view_is (fits-outermost c.self.inside.level (noted table) (level_at c.self.inside.levels.entries) (reverse c.self.inside.saves.items) c.self.invariant (ap (λ s. s.level) c.self.view_is ∙ is))

pub returns-clause-least : goal.returns-clause-least
returns-clause-least g c = depth-pos c.self.inside.level (level_at c.self.inside.levels.entries) (reverse c.self.inside.saves.items) c.self.invariant

pub returns-clause-alone : goal.returns-clause-alone
returns-clause-alone g c is frozen table =
    subst (λ s. outside frozen table s ≡ []) c.self.view_is (below-closed c.self.inside.level (before frozen table) (now frozen table) (level_at c.self.inside.levels.entries) (reverse c.self.inside.saves.items) c.self.invariant (ap (λ s. s.level) c.self.view_is ∙ is))
