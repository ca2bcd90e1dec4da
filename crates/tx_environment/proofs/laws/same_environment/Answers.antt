use Rattle.tx_environment.proofs.ContentLemmas.{same-environment}
use Rattle.tx_environment.proofs.laws.same_environment.Goals as goal

pub returns : goal.returns
returns c view other frozen e none contents = same-environment view other frozen e.table e.saves none contents
