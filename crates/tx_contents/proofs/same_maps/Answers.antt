use Rattle.tx_contents.proofs.MapLemmas.{now-same, before-same}
use Rattle.tx_contents.proofs.same_maps.Goals as goal

pub returns-clause-now : goal.returns-clause-now
returns-clause-now c g h frozen s none alike = now-same frozen s none g h alike

pub returns-clause-before : goal.returns-clause-before
returns-clause-before c g h frozen s none alike = before-same frozen s none g h alike
