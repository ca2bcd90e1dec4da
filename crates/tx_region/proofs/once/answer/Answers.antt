use Rattle.std.proofs.Common.{arith}
use Rattle.tx_proto.specs.Requests.{request_in}
use Rattle.tx_proto.specs.Written.{reply_in}
use Rattle.tx_region.proofs.LengthLemmas.{length-frame}
use Rattle.tx_region.proofs.SessionLemmas.{wants-memory, closes-full, unwritten}
use Rattle.tx_region.proofs.TellsLemmas.{stays-same}
use Rattle.tx_region.proofs.once.answer.Goals as goal

pub returns-then-had-eq-MOST_REGIONS-clause-turn : goal.returns-then-had-eq-MOST_REGIONS-clause-turn
returns-then-had-eq-MOST_REGIONS-clause-turn c d before map input_old input_new stands grows reads =
    closes-full d.args.had before map (request_in d.args.request.now) input_old input_new (c.O.Told.tells d.args.output.now) (c.O.Told.tells d.fill.new.output) d.fill.result d.if-had-eq-MOST_REGIONS.true d.requires.lawful reads d.fill.ensures

pub returns-in_default-clause-turn : goal.returns-in_default-clause-turn
returns-in_default-clause-turn c d before map input_old input_new stands grows reads =
    wants-memory d.args.had before map _ input_old input_new (c.O.Told.tells d.args.output.now) (c.O.Told.tells d.args.output.now) d.requires.few reads (stays-same (c.O.Told.tells d.args.output.now))

pub returns-in-All-clause-within : goal.returns-in-All-clause-within
returns-in-All-clause-within c d =
    let long = length-frame (request_in d.args.request.now) d.requires.lawful in
    (omega (arith, long, d.in-Ok.ensures), omega (arith, d.requires.few, d.if-had-eq-MOST_REGIONS.false))

pub returns-in-All-clause-turn : goal.returns-in-All-clause-turn
returns-in-All-clause-turn c d before map input_old input_new stands grows reads =
    let a = d.run_region-reply.ensures.answered map stands in
    record {
      request = request_in d.args.request.now;
      lawful = d.requires.lawful;
      reply = reply_in d.run_region-reply.result;
      after = a.0;
      replies = a.1;
      stands = a.2;
      input_grows = grows;
      output_grows = d.in-All.ensures.grows;
      reads = reads;
      writes = d.in-All.ensures.written;
      long = d.in-Ok.ensures;
      few = omega (arith, d.requires.few, d.if-had-eq-MOST_REGIONS.false);
    }

pub returns-in-WriteFault-clause-turn : goal.returns-in-WriteFault-clause-turn
returns-in-WriteFault-clause-turn c d before map input_old input_new stands grows reads =
    let a = d.run_region-reply.ensures.answered map stands in
    let w = d.in-WriteFault.ensures.written in
    unwritten d.args.had before map a.0 (request_in d.args.request.now) (reply_in d.run_region-reply.result) w.1.0 w.1.1 input_old input_new (c.O.Told.tells d.args.output.now) (c.O.Told.tells d.write_reply.new.to)
    (omega (arith, d.requires.few, d.if-had-eq-MOST_REGIONS.false)) d.requires.lawful a.1 reads w.1.2 w.1.3 w.0

pub returns-clause-turn : goal.returns-clause-turn
returns-clause-turn c d before map input_old input_new stands grows reads =
    wants-memory d.args.had before map _ input_old input_new (c.O.Told.tells d.args.output.now) (c.O.Told.tells d.write_reply.new.to) d.requires.few reads d.in-Memory.ensures.written
