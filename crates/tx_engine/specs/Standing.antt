-- What an engine stands for, over what its session knows and holds.
use Rattle.std.specs.Prelude.{◌≡◌, ℕ, ◌-◌, ◌≤◌, Bool, List, [], length, drop, Some}
use Rattle.std.specs.List.{list_any}
use Rattle.std.specs.Str.{bytes_eq}
use Rattle.tx_model.specs.declared.reply.Status.{Status}
use Rattle.tx_model.specs.declared.reply.Status.TheVariants as status
use Rattle.tx_node.specs.declared.BoxNode.{BoxNode}
use Rattle.tx_eqtb.specs.Meanings.{Map, meanings}
use Rattle.tx_eqtb.specs.Tables.{before}
use Rattle.tx_private.specs.Reads.{Result}
use Rattle.tx_private.specs.Region.{State, Outcome, Region}
use Rattle.tx_views.specs.Meanings.{map_in}
use Rattle.tx_environment.specs.Soundness.{IsSound, IsPresent, IsFirst}
use Rattle.tx_environment.specs.Steps.{IsOutermost}
use Rattle.tx_input.specs.Owned.{texts_of}
use Rattle.tx_input.specs.Worlds.{AllKnown}
use Rattle.tx_store.specs.Sessions as sessions
use Rattle.tx_store.specs.Sessions.{Session, Holding}
use Rattle.tx_store.specs.Steps as store
use Rattle.tx_scene.specs.declared.scene.Scene.{Scene}
use Rattle.tx_scene.specs.Scenes.{Ground, IsGround, state_in}
use Rattle.tx_scene.specs.Knowledge.{KnowsScene}
use Rattle.tx_run.specs.declared.run.Run.{Run}
use Rattle.tx_run.specs.Runs.{Means, ComesFrom, IsSoundFor, AreWaiting}
use Rattle.tx_run.specs.Knowledge.{held_by, IsEmptyHanded, KnowsFormat, KnowsRun}
use Rattle.tx_engine.specs.declared.engine.Engine.{Engine}
use Rattle.tx_engine.specs.declared.engine.Phase.{Phase}
use Rattle.tx_engine.specs.declared.engine.Phase.TheVariants as phase
use Rattle.tx_engine.specs.declared.step.End.{End}
use Rattle.tx_engine.specs.declared.step.End.TheVariants as end
use Rattle.tx_engine.specs.Agreement.{Agrees, known_names}

-- the frozen map of a session's format
abbrev pub frozen_of : Session → Map BoxNode
frozen_of session = meanings session.format.frozen

-- The environment at the end of a region that ended so: where it is to be undone only the first categories matter.
abbrev pub IsEnded : Map BoxNode → End → Scene → Type 0
IsEnded frozen end.Done s = IsSound frozen s.environment × IsOutermost s.environment
IsEnded frozen _ s = IsFirst frozen s.environment

-- a region that ended so is undone
abbrev pub IsUndone : End → Type 0
IsUndone end.Done = ⊥
IsUndone _ = Unit {0}

-- What is so of the run in each phase, whatever the session. No region goes on before its end is through. Once what a
-- region set is kept, the first categories are no longer those from before it, until the next one begins.
abbrev pub IsReadyIn : Map BoxNode → Phase → Run → Type 0
IsReadyIn frozen phase.Idle run = IsPresent frozen run.scene.environment × IsOutermost run.scene.environment × (run.scene.environment.table.journal ≡ []) × IsEmptyHanded run
IsReadyIn frozen phase.Runs run = IsSoundFor frozen run.doing run.scene × AreWaiting run.doing run.frames
IsReadyIn frozen (phase.Drops ended) run = IsEnded frozen ended run.scene
IsReadyIn frozen phase.Keeps run = IsPresent frozen run.scene.environment × IsOutermost run.scene.environment × IsEmptyHanded run
IsReadyIn frozen (phase.Undoes ended) run = IsUndone ended × IsFirst frozen run.scene.environment × IsEmptyHanded run
IsReadyIn frozen (phase.Abandons ended) run = IsUndone ended × IsFirst frozen run.scene.environment × (run.scene.environment.table.journal ≡ []) × IsEmptyHanded run

abbrev pub IsReady : Map BoxNode → Engine → Type 0
IsReady frozen e = IsReadyIn frozen e.phase e.run

-- the names that the run has are known, and while the region goes on its lists are held
abbrev pub KnowsIn : (ℕ → Bool) → Phase → Run → Type 0
KnowsIn names phase.Runs run = KnowsRun names run
KnowsIn names _ run = KnowsScene names run.scene

-- The engine works over what this session knows and holds: the row is exactly the references that the engine holds,
-- and they are counted; all names in it and in the lists that it holds are known; and whatever reading of the
-- numbers agrees with the session reads what the engine has.
pub record Serves (session : Session) (e : Engine) : Type 0 where
  pub sound : sessions.IsSound session
  pub format : KnowsFormat (known_names session) session.format
  pub row : (id : ℕ) → store.count_of (session.row id) ≡ held_by id e.run
  pub total : session.total ≡ e.references
  pub lists : (id : ℕ) (holding : Holding) → session.row id ≡ Some holding → AllKnown (known_names session) holding.content
  pub knows : KnowsIn (known_names session) e.phase e.run
  pub ground : (g : Ground) → Agrees session g → IsGround g e.run.scene

-- no region runs, and the session's state is this one, however its numbers are read
abbrev pub Rests : Session → Engine → State → Type 0
Rests session e s = (g : Ground) → Agrees session g → state_in g (frozen_of session) e.run.scene ≡ s

-- the state from before the region, to which the journal leads back, where the session had so many names of its own
abbrev pub state_before : Ground → Map BoxNode → ℕ → Scene → State
state_before g frozen own s = record {
  map = map_in g.view (before frozen s.environment.table);
  frozen = λ text. list_any (bytes_eq text) g.formats;
  names = texts_of g.view.naming (drop (length s.input.names - own) s.input.names);
}

-- that is this state, however its numbers are read
abbrev pub LeadsBack : Session → Engine → State → Type 0
LeadsBack session e s = (g : Ground) → Agrees session g → state_before g (frozen_of session) e.names e.run.scene ≡ s

-- what is told of a region that ended so
abbrev pub reported : Status → Scene → Outcome
reported status s = record { status = status; steps = s.input.steps.spent; pages = 0; dvi = []; log = s.log }

-- A region runs, which began in this state, a preamble or not, with this text and budget: however it goes on from here,
-- so it goes on from its beginning, the names from before it are there, and so is the way back.
pub record Runs (session : Session) (e : Engine) (s : State) (preamble : Bool) (text : List ℕ) (budget : ℕ) : Type 0 where
  pub means : (g : Ground) → Agrees session g → (r : Result) → Means g (frozen_of session) e.run r → ComesFrom s preamble text budget r
  pub names : e.names ≤ length e.run.scene.input.names
  pub back : LeadsBack session e s

-- a region that began so came to an outcome that leaves its state as it was
abbrev pub CameTo : Session → Engine → Status → State → Bool → List ℕ → ℕ → Type 0
CameTo session e status s preamble text budget = (g : Ground) → Agrees session g → Region s preamble text budget (reported status e.run.scene) s

-- or it came to its end, and its state is kept
abbrev pub CameToEnd : Session → Engine → State → Bool → List ℕ → ℕ → Type 0
CameToEnd session e s preamble text budget =
    (g : Ground) → Agrees session g → Region s preamble text budget (reported status.Done e.run.scene) (state_in g (frozen_of session) e.run.scene)

-- A region that began so has ended so. What it did is kept, or the way back is there. Nothing is said of its outcome
-- where memory was wanting.
abbrev pub HasEnded : Session → Engine → End → State → Bool → List ℕ → ℕ → Type 0
HasEnded session e end.Done s preamble text budget = CameToEnd session e s preamble text budget
HasEnded session e end.Failed s preamble text budget = CameTo session e status.Fail s preamble text budget × LeadsBack session e s
HasEnded session e end.Spent s preamble text budget = CameTo session e status.Spent s preamble text budget × LeadsBack session e s
HasEnded session e end.Memory s preamble text budget = LeadsBack session e s

-- what an engine stands for in each phase
abbrev pub StandsIn : Phase → Session → Engine → State → Bool → List ℕ → ℕ → Type 0
StandsIn phase.Idle session e s preamble text budget = Unit {0}
StandsIn phase.Runs session e s preamble text budget = Runs session e s preamble text budget
StandsIn (phase.Drops ended) session e s preamble text budget = HasEnded session e ended s preamble text budget
StandsIn phase.Keeps session e s preamble text budget = CameToEnd session e s preamble text budget
StandsIn (phase.Undoes ended) session e s preamble text budget = HasEnded session e ended s preamble text budget
StandsIn (phase.Abandons ended) session e s preamble text budget = HasEnded session e ended s preamble text budget

abbrev pub Stands : Session → Engine → State → Bool → List ℕ → ℕ → Type 0
Stands session e s preamble text budget = StandsIn e.phase session e s preamble text budget

-- Behind a region that began so and ended so: what it came to is the definitions' outcome, and the state that it leaves
-- is theirs, which where it is undone is the one from before it.
abbrev pub Answered : Session → Engine → End → State → Bool → List ℕ → ℕ → Type 0
Answered session e end.Done s preamble text budget = CameToEnd session e s preamble text budget
Answered session e end.Failed s preamble text budget = CameTo session e status.Fail s preamble text budget × Rests session e s
Answered session e end.Spent s preamble text budget = CameTo session e status.Spent s preamble text budget × Rests session e s
Answered session e end.Memory s preamble text budget = Rests session e s
