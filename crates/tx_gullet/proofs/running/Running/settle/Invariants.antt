-- what the answer at hand comes to, so does the answer given
use Rattle.std.proofs.Common.{◌≡◌, length}
use Rattle.tx_model.specs.Reads.{Result}
use Rattle.tx_names.specs.Names.{Naming, KeepsApart, Agrees}
use Rattle.tx_gullet.specs.Levels.{KeepsBefore}
use Rattle.tx_gullet.specs.Scenes.{world_of}
use Rattle.tx_gullet.specs.Frames.{KnowsAnswer, IsSoundAfter}
use Rattle.tx_gullet.specs.Runs.{EndsBy, outer}
use Rattle.tx_gullet.proofs.running.Running.settle.Given as goal

abbrev pub invariant-settling : goal.invariant-settling
invariant-settling l =
    IsSoundAfter l.answer l.self.scene
    × KnowsAnswer l.self.scene.names l.answer
    × (l.self.scene.names ≡ l.initial.self.scene.names)
    × (l.self.scene.steps ≡ l.initial.self.scene.steps)
    × ((naming : Naming) → KeepsApart naming → Agrees naming l.initial.self.scene.names → (r : Result) → EndsBy naming l.answer (outer naming l.self) (world_of naming l.self.scene) r → EndsBy naming l.initial.answer (outer naming l.initial.self) (world_of naming l.initial.self.scene) r)
    × KeepsBefore l.initial.self.scene.equivalents l.self.scene.equivalents

abbrev pub decreases-settling : goal.decreases-settling
decreases-settling l = length l.self.waiting.items
