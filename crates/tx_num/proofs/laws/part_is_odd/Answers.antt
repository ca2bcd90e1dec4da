use Rattle.tx_num.proofs.PartLemmas.{part-neg}
use Rattle.tx_num.proofs.laws.part_is_odd.Goals as goal

pub returns : goal.returns
returns c = part-neg
