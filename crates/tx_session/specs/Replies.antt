-- What a region over a store comes to.
use Rattle.std.specs.Prelude.{ℕ, Bool, List}
use Rattle.tx_private.specs.Region.{State}
use Rattle.tx_scene.specs.Scenes.{state_in}
use Rattle.tx_store.specs.Sessions.{Session}
use Rattle.tx_engine.specs.declared.engine.Engine.{Engine}
use Rattle.tx_engine.specs.declared.step.End.{End}
use Rattle.tx_engine.specs.declared.step.End.TheVariants as end
use Rattle.tx_engine.specs.Agreement.{Agrees}
use Rattle.tx_engine.specs.Standing.{frozen_of, Stands, Rests}
use Rattle.tx_scene.specs.Scenes.{Ground}

-- from one session and engine to another, however the region began, the engine goes on to stand for it
abbrev pub GoesOn : Session → Engine → Session → Engine → Type 0
GoesOn before old after new =
    (s : State) (preamble : Bool) (text : List ℕ) (budget : ℕ) → Stands before old s preamble text budget → Stands after new s preamble text budget

-- the state that is kept behind a region is one state, however the numbers are read
abbrev pub RestsAs : Session → Engine → End → Type 0
RestsAs session e end.Done = (g : Ground) → Agrees session g → Rests session e (state_in g (frozen_of session) e.run.scene)
RestsAs session e _ = Unit {0}
