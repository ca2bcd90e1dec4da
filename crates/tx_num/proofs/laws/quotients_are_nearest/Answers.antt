use Rattle.tx_num.proofs.DivisionLemmas.{nearest-near}
use Rattle.tx_num.proofs.laws.quotients_are_nearest.Goals as goal

pub returns : goal.returns
returns c = nearest-near
