use Rattle.tx_macro.proofs.SplitLemmas.{split-is-unique}
use Rattle.tx_macro.proofs.laws.split_is_unique.Goals as goal

pub returns : goal.returns
returns c = split-is-unique
