use Rattle.tx_num.proofs.DecimalsLemmas.{length-decimals-le}
use Rattle.tx_num.proofs.laws.decimals_are_fewest.Goals as goal

pub returns : goal.returns
returns c = length-decimals-le
