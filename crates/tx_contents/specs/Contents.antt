-- Which lists what a run means depends on.
use Rattle.std.specs.Prelude.{◌≡◌, ℕ, ◌+◌, ◌<◌}
use Rattle.tx_environment.specs.Holding.{SameContents}
use Rattle.tx_scene.specs.declared.scene.Scene.{Scene}
use Rattle.tx_scene.specs.Scenes.{Ground}
use Rattle.tx_scene.specs.Knowledge.{references}
use Rattle.tx_run.specs.declared.run.Run.{Run}
use Rattle.tx_run.specs.Knowledge.{in_hand}

-- Two readings of the numbers agree but for the contents of pooled lists that aren't among these.
pub record SameGround (IsAmong : ℕ → Type 0) (g h : Ground) : Type 0 where
  pub formats : g.formats ≡ h.formats
  pub contents : SameContents IsAmong g.view h.view

-- a scene holds the pooled list with this number, and so does a run: what has fallen away is not among these
abbrev pub IsHeldIn : Scene → ℕ → Type 0
IsHeldIn s id = 0 < references id s

abbrev pub IsHeldBy : Run → ℕ → Type 0
IsHeldBy run id = 0 < references id run.scene + in_hand id run.doing
