use Rattle.tx_run.proofs.KnowledgeLemmas.{none-known}
use Rattle.tx_run.specs.Knowledge.{known_by}
use Rattle.tx_run.proofs.run.Run.new.Goals as goal

pub returns-clause-knows : goal.returns-clause-knows
returns-clause-knows c names scene =
    let known = known_by names c.args.scene in
    record { scene = scene; doing = tt; behind = none-known known c.new-frames.result c.start.result c.new-frames.ensures (c.start.ensures.knows known) }
