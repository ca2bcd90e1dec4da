use Rattle.tx_macro.proofs.SplitLemmas.{matched-is-split}
use Rattle.tx_macro.proofs.laws.matched_is_split.Goals as goal

pub returns : goal.returns
returns c = matched-is-split
