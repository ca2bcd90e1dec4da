use Rattle.tx_etex.proofs.ValueLemmas.{value-is-arithmetic}
use Rattle.tx_etex.proofs.laws.value_is_arithmetic.Goals as goal

pub returns : goal.returns
returns c = value-is-arithmetic
