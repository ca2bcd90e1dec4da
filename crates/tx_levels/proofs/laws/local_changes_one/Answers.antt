use Rattle.std.proofs.Common.{◌∷◌, map}
use Rattle.tx_levels.specs.Wholes.{leads}
use Rattle.tx_levels.proofs.WholeLemmas.{leads-changed}
use Rattle.tx_levels.proofs.laws.local_changes_one.Goals as goal

pub returns : goal.returns
returns c frozen levels at n = λ i. leads-changed levels.innermost at n frozen i ∷ map (λ whole. leads whole frozen) levels.outer
