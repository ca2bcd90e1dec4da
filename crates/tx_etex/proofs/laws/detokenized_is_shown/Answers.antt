use Rattle.tx_etex.proofs.TextLemmas.{detokenized-is-shown}
use Rattle.tx_etex.proofs.laws.detokenized_is_shown.Goals as goal

pub returns : goal.returns
returns c = detokenized-is-shown
