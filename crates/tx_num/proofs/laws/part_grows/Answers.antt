use Rattle.tx_num.proofs.PartLemmas.{part-le}
use Rattle.tx_num.proofs.laws.part_grows.Goals as goal

pub returns : goal.returns
returns c = part-le
