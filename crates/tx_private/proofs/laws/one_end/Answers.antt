use Rattle.tx_private.proofs.Fuel.{reads-once}
use Rattle.tx_private.proofs.laws.one_end.Goals as goal

pub returns : goal.returns
returns c = reads-once
