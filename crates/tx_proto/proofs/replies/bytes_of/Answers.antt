use Rattle.std.specs.Fmt.{digits}
use Rattle.tx_proto.proofs.replies.bytes_of.Goals as goal

pub returns-in-Memory : goal.returns-in-Memory
unfolding digits
returns-in-Memory c = rw c.in-Memory.is c.from_slice.ensures.items
