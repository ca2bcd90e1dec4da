use Rattle.tx_num.proofs.BadnessLemmas.{badness-grows}
use Rattle.tx_num.proofs.laws.badness_grows.Goals as goal

pub returns : goal.returns
returns c = badness-grows
