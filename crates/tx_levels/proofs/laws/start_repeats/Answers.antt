use Rattle.std.proofs.Common.{refl}
use Rattle.tx_levels.proofs.laws.start_repeats.Goals as goal

pub returns : goal.returns
returns c frozen levels = refl
