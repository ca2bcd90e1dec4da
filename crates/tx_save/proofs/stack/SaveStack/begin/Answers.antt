use Rattle.std.proofs.Common.{ap, reverse}
use Rattle.tx_save.specs.Levels.{level_at}
use Rattle.tx_save.proofs.SaveLemmas.{leveled-begun}
use Rattle.tx_save.proofs.stack.SaveStack.begin.Goals as goal

pub invariant_of-self-2 : goal.invariant_of-self-2
invariant_of-self-2 g c = leveled-begun c.self.inside.level (level_at c.self.inside.levels.entries) _ _ _ _ c.self.invariant (ap reverse c.reserve.ensures.items) c.push_save.ensures
