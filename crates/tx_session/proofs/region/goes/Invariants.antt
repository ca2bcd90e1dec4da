-- the region goes on, and the engine stands for it as it did
use Rattle.std.proofs.Common.{◌≡◌}
use Rattle.tx_eqtb.specs.Meanings.{meanings}
use Rattle.tx_run.specs.Runs.{left}
use Rattle.tx_engine.specs.declared.engine.Phase.TheVariants as phase
use Rattle.tx_engine.specs.Standing.{IsReady, Serves}
use Rattle.tx_session.specs.Replies.{GoesOn}
use Rattle.tx_session.proofs.region.goes.Given as goal

abbrev pub invariant-ticks : goal.invariant-ticks
invariant-ticks g l =
    let session = g.S.Store.session in
    ((session l.store).format ≡ l.format)
    × (l.engine.phase ≡ phase.Runs)
    × IsReady (meanings l.format.frozen) l.engine
    × Serves (session l.store) l.engine
    × (l.engine.preamble ≡ l.initial.engine.preamble)
    × GoesOn (session l.initial.store) l.initial.engine (session l.store) l.engine

abbrev pub decreases-ticks : goal.decreases-ticks
decreases-ticks g l = left l.engine.run
