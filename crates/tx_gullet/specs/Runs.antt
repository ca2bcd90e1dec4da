-- What a region that runs stands for, and what a tick of it does.
use Rattle.std.specs.Prelude.{◌≡◌, ℕ, List, [], ◌∷◌}
use Rattle.tx_model.specs.World.{World, failure, Takes, Finds-none, taking}
use Rattle.tx_model.specs.Environment.{Map, Environment}
use Rattle.tx_model.specs.Region.{Region, started, outermost}
use Rattle.tx_model.specs.Moves as moves
use Rattle.tx_model.specs.Reads.{Result, Gave, Failed, Spent}
use Rattle.tx_model.specs.Opens.{Open, begun, Then, ComesGiven}
use Rattle.tx_model.specs.Opens as opens
use Rattle.tx_tok.specs.declared.tok.Tok.{Tok}
use Rattle.tx_names.specs.Names.{Names, Naming, KeepsApart, Agrees, first_texts}
use Rattle.tx_gullet.specs.declared.meaning.Meaning.{Meaning}
use Rattle.tx_gullet.specs.declared.frame.Item.{Item}
use Rattle.tx_gullet.specs.declared.frame.Answer.{Answer}
use Rattle.tx_gullet.specs.declared.frame.Answer.TheVariants as answer
use Rattle.tx_gullet.specs.declared.running.Running.{Running}
use Rattle.tx_gullet.specs.declared.running.Tick.{Tick}
use Rattle.tx_gullet.specs.declared.running.Tick.TheVariants as tick
use Rattle.tx_gullet.specs.declared.outcome.Outcome.{Outcome}
use Rattle.tx_gullet.specs.declared.outcome.Outcome.TheVariants as outcome
use Rattle.tx_gullet.specs.Levels.{levels, meaning_by, before, KnowsEquivalents}
use Rattle.tx_gullet.specs.Outcomes.{region_outcome}
use Rattle.tx_gullet.specs.States.{State}
use Rattle.tx_gullet.specs.Scenes.{world_of, IsSound, present}
use Rattle.tx_gullet.specs.Frames.{command_in, open_of, waiting_of, outer_of, item_in, value_in, KnowsFrame}

-- the readings around the innermost one
abbrev pub outer : Naming → Running → List Open
outer naming e = outer_of naming e.waiting.items

-- from this world, with these readings open, the region comes to this
abbrev pub ComesFrom : Naming → Running → World → Result → Type 0
ComesFrom naming e w r = opens.Comes (open_of naming e.frame) (outer naming e) w r

-- from here the region comes to this
abbrev pub Ends : Naming → Running → Result → Type 0
Ends naming e r = ComesFrom naming e (world_of naming e.scene) r

-- the table has all names that are held
pub record IsSoundRun (e : Running) : Type 0 where
  pub scene : IsSound e.scene
  pub frame : KnowsFrame e.scene.names e.frame

-- what is sound after a tick with this answer
abbrev pub IsSoundTick : Tick → Running → Type 0
IsSoundTick tick.Went e = IsSoundRun e
IsSoundTick tick.Done e = IsSound e.scene
IsSoundTick _ e = Unit {0}

-- after a tick with this answer, the region comes to this
abbrev pub EndsAfter : Naming → Tick → Running → Result → Type 0
EndsAfter naming tick.Went e r = Ends naming e r
EndsAfter naming tick.Done e r = (v : moves.Value) × (Gave v (world_of naming e.scene) ≡ r)
EndsAfter naming (tick.Failed error) e r = Failed (failure error (world_of naming e.scene)) ≡ r
EndsAfter naming tick.Spent e r = Spent (world_of naming e.scene).output ≡ r
EndsAfter naming tick.Memory e r = ⊥

-- However the region ends after a tick, so it ends before it: for each naming that agrees with the table
-- after it.
abbrev pub AfterTick : Running → Tick → Running → Type 0
AfterTick old t new =
    (naming : Naming) → KeepsApart naming → Agrees naming new.scene.names
    → Agrees naming old.scene.names × ((r : Result) → EndsAfter naming t new r → Ends naming old r)

-- with an answer to its last item, the innermost reading and those around it come to this
abbrev pub EndsBy : Naming → Answer → List Open → World → Result → Type 0
EndsBy naming (answer.Goes f) around w r = opens.Comes (open_of naming f) around w r
EndsBy naming (answer.Within x f) around w r = opens.Comes (open_of naming f) (waiting_of naming x ∷ around) w r
EndsBy naming answer.Again around w r = opens.Comes (begun moves.Control) around w r
EndsBy naming (answer.Done v) around w r = Then around (Gave (value_in naming v) w) r
EndsBy naming (answer.Wrong error) around w r = Failed (failure error w) ≡ r
EndsBy naming answer.Memory around w r = ⊥

-- after an answer was settled
abbrev pub Settles : Answer → Running → Tick → Running → Type 0
Settles a old t new =
    (naming : Naming) → KeepsApart naming → Agrees naming old.scene.names
    → (r : Result) → EndsAfter naming t new r → EndsBy naming a (outer naming old) (world_of naming old.scene) r

-- after the innermost reading was given an item
abbrev pub Feeds : Item → Running → Tick → Running → Type 0
Feeds i old t new =
    (naming : Naming) → KeepsApart naming → Agrees naming old.scene.names
    → (r : Result) → EndsAfter naming t new r → ComesGiven (open_of naming old.frame) (item_in naming i) (outer naming old) (world_of naming old.scene) r

-- after a token was taken, whatever the world was before
abbrev pub Took : Tok → Running → Tick → Running → Type 0
Took token old t new =
    (naming : Naming) → KeepsApart naming → Agrees naming old.scene.names
    → (r : Result) → EndsAfter naming t new r
    → (w : World) → taking w ≡ Takes (present naming old.scene token) (world_of naming old.scene) → ComesFrom naming old w r

-- after nothing was pending
abbrev pub TookNone : Running → Tick → Running → Type 0
TookNone old t new =
    (naming : Naming) → KeepsApart naming → Agrees naming old.scene.names
    → (r : Result) → EndsAfter naming t new r
    → (w : World) → taking w ≡ Finds-none (world_of naming old.scene) → ComesFrom naming old w r

-- the same, where the token has this meaning
abbrev pub TookAs : Tok → Meaning → Running → Tick → Running → Type 0
TookAs token m old t new =
    (naming : Naming) → KeepsApart naming → Agrees naming old.scene.names
    → (r : Result) → EndsAfter naming t new r
    → (w : World) → taking w ≡ Takes (command_in naming token m) (world_of naming old.scene) → ComesFrom naming old w r

-- a region with this text and budget begins in the state of this map
pub record Begins (naming : Naming) (e : Running) (map : Map) (text : List ℕ) (budget : ℕ) : Type 0 where
  pub control : open_of naming e.frame ≡ begun moves.Control
  pub alone : outer naming e ≡ []
  pub world : world_of naming e.scene ≡ started map text budget

-- the names, and what they mean
abbrev pub state_of : Running → State
state_of e = record { names = e.scene.names; equivalents = e.scene.equivalents }

-- the map that a region leaves, which ends so in this environment
abbrev pub left_in : Outcome → Environment → Map → Map
left_in (outcome.Done o) maps map = outermost map maps
left_in _ maps map = map

-- From its beginning the region comes to this outcome: for each naming that agrees with the table after it.
abbrev pub ComesTo : Running → Outcome → Running → Type 0
ComesTo old o new =
    (naming : Naming) → KeepsApart naming → Agrees naming new.scene.names
    → Agrees naming old.scene.names
    × ((map : Map) (text : List ℕ) (budget : ℕ) → Begins naming old map text budget → Region map text budget (region_outcome o) (left_in o (levels naming new.scene.equivalents) map))

-- what is known after the region
abbrev pub IsKnownAfter : Outcome → Running → Type 0
IsKnownAfter (outcome.Done o) e = KnowsEquivalents e.scene.names e.scene.equivalents
IsKnownAfter _ e = Unit {0}

-- the outermost level was kept
pub record Kept (old new : Running) : Type 0 where
  pub names : new.scene.names ≡ old.scene.names
  pub levels : (naming : Naming) → KeepsApart naming → (map : Map) → levels naming new.scene.equivalents ≡ outermost map (levels naming old.scene.equivalents) ∷ []
  pub knows : (names : Names) → KnowsEquivalents names old.scene.equivalents → KnowsEquivalents names new.scene.equivalents
  pub unsaved : new.scene.equivalents.saves.items ≡ []

-- all that was saved was given back, and all but so many names
pub record GaveBack (known : ℕ) (old new : Running) : Type 0 where
  pub names : new.scene.names ≡ first_texts known old.scene.names
  pub before : meaning_by new.scene.equivalents.names.entries ≡ before old.scene.equivalents
  pub unsaved : new.scene.equivalents.saves.items ≡ []
  pub cats : new.scene.equivalents.cats ≡ old.scene.equivalents.cats

abbrev pub AfterEnd : Outcome → ℕ → Running → Running → Type 0
AfterEnd (outcome.Done o) known old new = Kept old new
AfterEnd _ known old new = GaveBack known old new
