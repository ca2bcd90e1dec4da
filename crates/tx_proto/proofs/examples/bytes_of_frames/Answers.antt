use Rattle.std.proofs.Common.{refl}
use Rattle.std.specs.Fmt.{digits}
use Rattle.tx_proto.proofs.examples.bytes_of_frames.Goals as goal

pub returns-clause-text : goal.returns-clause-text
unfolding digits
returns-clause-text c = refl

pub returns-clause-largest : goal.returns-clause-largest
unfolding digits
returns-clause-largest c = refl
