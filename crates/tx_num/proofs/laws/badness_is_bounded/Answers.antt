use Rattle.tx_num.proofs.BadnessLemmas.{badness-le}
use Rattle.tx_num.proofs.laws.badness_is_bounded.Goals as goal

pub returns : goal.returns
returns c = badness-le
