use Rattle.tx_cond.proofs.SkipLemmas.{skip-ends-at-word}
use Rattle.tx_cond.proofs.laws.skip_ends_at_word.Goals as goal

pub returns : goal.returns
returns c = skip-ends-at-word
