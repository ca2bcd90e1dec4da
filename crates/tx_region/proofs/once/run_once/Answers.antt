use Rattle.std.proofs.Common.{[], arith}
use Rattle.tx_region.proofs.SessionLemmas.{wants-memory}
use Rattle.tx_region.proofs.TellsLemmas.{reads-nothing, stays-same}
use Rattle.tx_region.proofs.once.run_once.Goals as goal

pub returns-in-Err : goal.returns-in-Err
returns-in-Err c d map is =
    wants-memory 0 0 map [] (c.I.Told.tells d.args.input.now) (c.I.Told.tells d.args.input.now) (c.O.Told.tells d.args.output.now) (c.O.Told.tells d.args.output.now) (omega arith) (reads-nothing (c.I.Told.tells d.args.input.now)) (stays-same (c.O.Told.tells d.args.output.now))

pub returns-in-Ok : goal.returns-in-Ok
returns-in-Ok c d map is = d.serve.ensures map (d.in-Ok.ensures map is)
