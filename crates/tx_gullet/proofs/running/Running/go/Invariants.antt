-- however the region ends from here, so it ends from its start, and what was before stays
use Rattle.std.proofs.Common.{◌-◌}
use Rattle.tx_model.specs.Reads.{Result}
use Rattle.tx_names.specs.Names.{Naming, KeepsApart, Agrees, Extends}
use Rattle.tx_gullet.specs.Levels.{KeepsBefore}
use Rattle.tx_gullet.specs.Runs.{IsSoundRun, Ends}
use Rattle.tx_gullet.proofs.running.Running.go.Given as goal

abbrev pub invariant-ticks : goal.invariant-ticks
invariant-ticks l =
    IsSoundRun l.self
    × ((naming : Naming) → KeepsApart naming → Agrees naming l.self.scene.names → Agrees naming l.initial.self.scene.names × ((r : Result) → Ends naming l.self r → Ends naming l.initial.self r))
    × KeepsBefore l.initial.self.scene.equivalents l.self.scene.equivalents
    × Extends l.initial.self.scene.names l.self.scene.names

abbrev pub decreases-ticks : goal.decreases-ticks
decreases-ticks l = l.self.scene.steps.budget - l.self.scene.steps.spent
