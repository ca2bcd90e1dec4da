use Rattle.tx_num.proofs.BadnessLemmas.{badness-falls}
use Rattle.tx_num.proofs.laws.badness_falls.Goals as goal

pub returns : goal.returns
returns c = badness-falls
