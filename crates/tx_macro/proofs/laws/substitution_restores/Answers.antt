use Rattle.tx_macro.proofs.SplitLemmas.{substitution-restores}
use Rattle.tx_macro.proofs.laws.substitution_restores.Goals as goal

pub returns : goal.returns
returns c = substitution-restores
