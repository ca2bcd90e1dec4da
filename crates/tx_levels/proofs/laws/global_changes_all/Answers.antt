use Rattle.std.proofs.Common.{◌∷◌}
use Rattle.tx_levels.proofs.WholeLemmas.{leads-changed, leads-all}
use Rattle.tx_levels.proofs.laws.global_changes_all.Goals as goal

pub returns : goal.returns
returns c frozen levels at n = λ i. leads-changed levels.innermost at n frozen i ∷ leads-all levels.outer at n frozen i
