use Rattle.tx_macro.proofs.SameLemmas.{same-is-equal}
use Rattle.tx_macro.proofs.laws.same_is_equal.Goals as goal

pub returns : goal.returns
returns c = same-is-equal
