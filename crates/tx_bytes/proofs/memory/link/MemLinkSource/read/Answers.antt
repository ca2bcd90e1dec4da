use Rattle.tx_bytes.proofs.MemoryLemmas.{told-read}
use Rattle.tx_bytes.proofs.memory.link.MemLinkSource.read.Goals as goal

pub returns-clause-told : goal.returns-clause-told
returns-clause-told c =
    told-read c.args.self.now c.give.new.self c.args.buffer.now c.give.new.buffer c.give.result c.requires c.give.ensures.reads c.give.ensures.fails
