use Rattle.tx_num.proofs.ShownLemmas.{shown_sp-reads_back}
use Rattle.tx_num.proofs.laws.dimensions_read_back.Goals as goal

pub returns : goal.returns
returns c = shown_sp-reads_back
