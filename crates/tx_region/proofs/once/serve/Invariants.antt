-- however the session goes on from here, so it does from its beginning
use Rattle.std.proofs.Common.{ℕ, ◌≤◌, ◌*◌, ◌-◌}
use Rattle.tx_model.specs.Environment.{Map}
use Rattle.tx_gullet.specs.States.{StandsFor}
use Rattle.tx_region.specs.Turns.{Continues}
use Rattle.tx_region.proofs.once.serve.Given as goal

abbrev pub invariant-frames : goal.invariant-frames
invariant-frames g l =
    let input = g.I.Told.tells in
    let output = g.O.Told.tells in
    (l.had ≤ 65536) × (l.before ≤ l.had * 1048600)
    × ((map : Map) → StandsFor l.initial.engine map → (now : Map) × StandsFor l.engine now × Continues 0 0 map (input l.initial.input) (output l.initial.output) l.had l.before now (input l.input) (output l.output))

abbrev pub decreases-frames : goal.decreases-frames
decreases-frames g l = 65537 - l.had
