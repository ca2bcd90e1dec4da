use Rattle.tx_bytes.proofs.MemoryLemmas.{told-write}
use Rattle.tx_bytes.proofs.memory.link.MemLinkSink.write.Goals as goal

pub returns-clause-told : goal.returns-clause-told
returns-clause-told c =
    told-write c.args.self.now c.get.new.self c.args.bytes.now c.get.result c.get.ensures.gets c.get.ensures.fails
