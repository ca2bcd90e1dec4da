use Rattle.std.proofs.Common.{sym, ◌∙◌}
use Rattle.tx_bytes.proofs.MemoryLemmas.{reads-at}
use Rattle.tx_bytes.proofs.memory.link.MemLink.give.Goals as goal

pub returns-clause-reads : goal.returns-clause-reads
returns-clause-reads c =
    reads-at c.args.self.now c.self.inside.failures c.fails.new.self c.self.inside.bytes.items c.self.inside.got.items c.args.buffer.now c.read_from-count.new.buffer c.self.inside.at c.read_from-count.result c.self.view_is c.fails.ensures.after c.self.invariant
    (λ e. c.if-self-len.false (e ∙ sym c.self.inside.bytes.ok.0 ∙ sym c.len.ensures)) c.requires
    (rw c.deref.ensures.value at c.read_from-count.ensures.count)
    (rw c.deref.ensures.value at c.read_from-count.ensures.bytes)
