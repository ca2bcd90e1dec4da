use Rattle.tx_etex.proofs.RigidLemmas.{integers-are-rigid}
use Rattle.tx_etex.proofs.laws.integers_are_rigid.Goals as goal

pub returns : goal.returns
returns c = integers-are-rigid
