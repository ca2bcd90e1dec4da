use Rattle.tx_num.proofs.RoundingLemmas.{round_digits-nearest}
use Rattle.tx_num.proofs.laws.digits_are_rounded.Goals as goal

pub returns : goal.returns
returns c = round_digits-nearest
