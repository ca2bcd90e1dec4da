use Rattle.tx_cond.proofs.SkipLemmas.{word-ends-skip}
use Rattle.tx_cond.proofs.laws.word_ends_skip.Goals as goal

pub returns : goal.returns
returns c = word-ends-skip
