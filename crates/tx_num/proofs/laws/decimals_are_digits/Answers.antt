use Rattle.tx_num.proofs.DecimalsLemmas.{All-decimals, decimals_some, length-decimals-le_five}
use Rattle.tx_num.proofs.laws.decimals_are_digits.Goals as goal

pub returns : goal.returns
returns c = λ fraction small. (All-decimals fraction small, decimals_some fraction, length-decimals-le_five fraction)
