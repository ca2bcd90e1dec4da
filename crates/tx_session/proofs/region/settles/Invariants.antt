-- what comes behind the region goes on, and the engine stands for it as it did
use Rattle.std.proofs.Common.{◌≡◌}
use Rattle.tx_eqtb.specs.Meanings.{meanings}
use Rattle.tx_engine.specs.Standing.{IsReady, Serves}
use Rattle.tx_engine.specs.Steps.{IsEnding, left_behind}
use Rattle.tx_session.specs.Replies.{GoesOn}
use Rattle.tx_session.proofs.region.settles.Given as goal

abbrev pub invariant-steps : goal.invariant-steps
invariant-steps g l =
    let session = g.S.Store.session in
    ((session l.store).format ≡ (session l.initial.store).format)
    × IsEnding l.engine.phase
    × IsReady (meanings (session l.store).format.frozen) l.engine
    × Serves (session l.store) l.engine
    × (l.engine.preamble ≡ l.initial.engine.preamble)
    × GoesOn (session l.initial.store) l.initial.engine (session l.store) l.engine

abbrev pub decreases-steps : goal.decreases-steps
decreases-steps g l = left_behind l.engine
