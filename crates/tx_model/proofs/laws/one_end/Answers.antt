use Rattle.tx_model.proofs.Fuel.{reads-once}
use Rattle.tx_model.proofs.laws.one_end.Goals as goal

pub returns : goal.returns
returns c = reads-once
