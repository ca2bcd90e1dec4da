use Rattle.tx_macro.proofs.SplitLemmas.{split-is-matched}
use Rattle.tx_macro.proofs.laws.split_is_matched.Goals as goal

pub returns : goal.returns
returns c = split-is-matched
