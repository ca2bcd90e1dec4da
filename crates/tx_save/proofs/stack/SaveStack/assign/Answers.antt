use Rattle.std.proofs.Common.{ap, arith, reverse}
use Rattle.tx_save.specs.Levels.{level_at}
use Rattle.tx_save.proofs.SaveLemmas.{depth-pos}
use Rattle.tx_save.proofs.stack.SaveStack.assign.Goals as goal

pub assign_again-requires-clause-open : goal.assign_again-requires-clause-open
assign_again-requires-clause-open g c =
    omega (arith, depth-pos c.self.inside.level (level_at c.self.inside.levels.entries) (reverse c.self.inside.saves.items) c.self.invariant, ap (λ s. s.level) c.self.view_is, c.if-self-eq1.false)
