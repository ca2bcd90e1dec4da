use Rattle.tx_num.proofs.DecimalsLemmas.{round_digits-decimals}
use Rattle.tx_num.proofs.laws.decimals_read_back.Goals as goal

pub returns : goal.returns
returns c = round_digits-decimals
