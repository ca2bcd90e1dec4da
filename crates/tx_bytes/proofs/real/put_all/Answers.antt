use Rattle.tx_bytes.proofs.RealLemmas.{wrote_more}
use Rattle.tx_bytes.proofs.real.put_all.Goals as goal

pub writes-preserved : goal.writes-preserved
writes-preserved g c =
    wrote_more (g.W.Write.contents c.args.writer.now) (g.W.Write.contents c.writes.writer) (g.W.Write.contents c.write.new.self) c.args.bytes.now c.writes.invariant.0 c.writes.rest.now c.in-Ok.count c.writes.invariant.1 c.writes.invariant.2 c.in-Ok.ensures.bytes
