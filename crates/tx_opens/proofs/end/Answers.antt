use Rattle.tx_opens.proofs.Opens.{comes-to-end}
use Rattle.tx_opens.proofs.end.Goals as goal

pub returns : goal.returns
returns c k w r = comes-to-end k w r
