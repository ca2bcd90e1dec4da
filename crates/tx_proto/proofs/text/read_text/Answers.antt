use Rattle.std.proofs.Common.{◌≡◌, ◌-◌, ◌≤◌, length, take, arith, sym, ap, ◌∙◌}
use Rattle.std.proofs.lemmas.List.{length-take-le}
use Rattle.tx_proto.proofs.ReadLemmas.{reads-stays, rises-later}
use Rattle.tx_proto.proofs.LineLemmas.{reads-filled, length-filled, end-stays}
use Rattle.tx_proto.proofs.text.read_text.Goals as goal

pub reads-preserved : goal.reads-preserved
reads-preserved g c =
    let size : length c.reads.bytes.items ≡ c.reads.bytes.len = ap length (sym c.deref_mut.ensures.value) ∙ c.deref_mut.ensures.len in
    let within : c.reads.count ≤ c.reads.bytes.len = omega (arith, size, c.reads.invariant.long, c.reads.invariant.within) in
    let room : length c.read.new.buffer ≡ c.reads.bytes.len - c.reads.count = omega (arith, c.read.auto.buffer, c.deref_mut.ensures.len) in
    record {
      within = omega (arith, size, c.reads.invariant.long, room, c.in-Bytes.ensures.1);
      long = length-filled c.deref_mut.result.now c.read.new.buffer _ _ c.reads.bytes.len c.reads.count c.deref_mut.ensures.len within room ∙ sym size ∙ c.reads.invariant.long;
      next = reads-filled c.reads.bytes.items c.deref_mut.result.now c.read.new.buffer _ _ c.reads.bytes.len c.reads.count c.in-Bytes.more
          (g.L.Told.tells c.args.from.now) (g.L.Told.tells c.reads.from) (g.L.Told.tells c.read.new.self)
          c.deref_mut.ensures.value size within c.in-Bytes.ensures.1 room c.reads.invariant.next c.in-Bytes.ensures.3;
      grows = omega (arith, c.reads.invariant.grows, c.in-Bytes.ensures.2);
    }

pub returns-in-End-clause-text : goal.returns-in-End-clause-text
returns-in-End-clause-text g c =
    let old = g.L.Told.tells c.args.from.now in
    let mid = g.L.Told.tells c.reads.from in
    let new = g.L.Told.tells c.read.new.self in (
      c.reads-test.true,
      (
        take c.reads.count c.reads.bytes.items,
        length-take-le c.reads.count c.reads.bytes.items (omega (arith, c.reads.invariant.long, c.reads-test.true)),
        reads-stays old mid new (take c.reads.count c.reads.bytes.items) c.reads.invariant.next c.in-End.ensures.1,
      ),
      end-stays mid new c.in-End.ensures.1 c.in-End.ensures.2,
    )

pub returns-in-Failed-clause-text : goal.returns-in-Failed-clause-text
returns-in-Failed-clause-text g c =
    let old = g.L.Told.tells c.args.from.now in
    let mid = g.L.Told.tells c.reads.from in
    let new = g.L.Told.tells c.read.new.self in
    let long : length (take c.reads.count c.reads.bytes.items) ≡ c.reads.count =
    length-take-le c.reads.count c.reads.bytes.items (omega (arith, c.reads.invariant.long, c.reads-test.true))
    in (
      rises-later old mid new c.reads.invariant.grows c.in-Failed.ensures.0,
      (
        take c.reads.count c.reads.bytes.items,
        omega (arith, c.reads-test.true, long),
        reads-stays old mid new (take c.reads.count c.reads.bytes.items) c.reads.invariant.next c.in-Failed.ensures.1,
      ),
    )
