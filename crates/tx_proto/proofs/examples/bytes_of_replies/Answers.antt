use Rattle.std.proofs.Common.{refl}
use Rattle.std.specs.Fmt.{digits}
use Rattle.tx_proto.proofs.examples.bytes_of_replies.Goals as goal

pub returns-clause-done : goal.returns-clause-done
unfolding digits
returns-clause-done c = refl

pub returns-clause-fail : goal.returns-clause-fail
unfolding digits
returns-clause-fail c = refl

pub returns-clause-spent : goal.returns-clause-spent
unfolding digits
returns-clause-spent c = refl

pub returns-clause-memory : goal.returns-clause-memory
unfolding digits
returns-clause-memory c = refl

pub returns-clause-bad : goal.returns-clause-bad
unfolding digits
returns-clause-bad c = refl
