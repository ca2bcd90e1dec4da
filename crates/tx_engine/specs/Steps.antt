-- What each call does to what an engine stands for.
use Rattle.std.specs.Prelude.{◌≡◌, ℕ, ◌*◌, ◌+◌, ◌<◌, ◌≤◌, Bool, List, length, Option, Some, None, IsSome}
use Rattle.std.specs.Option.{option_map_or}
use Rattle.tx_node.specs.declared.BoxNode.{BoxNode}
use Rattle.tx_eqtb.specs.Meanings.{Map}
use Rattle.tx_private.specs.Region.{State}
use Rattle.tx_store.specs.Sessions as sessions
use Rattle.tx_store.specs.Sessions.{Session}
use Rattle.tx_store.specs.Steps.{HasRoom, IsHeld, AfterRelease}
use Rattle.tx_environment.specs.Steps.{entries_saved}
use Rattle.tx_run.specs.declared.op.Op.{Op}
use Rattle.tx_run.specs.declared.op.Op.TheVariants as op
use Rattle.tx_run.specs.Runs.{asked, left}
use Rattle.tx_run.specs.Knowledge.{hands}
use Rattle.tx_engine.specs.declared.engine.Engine.{Engine}
use Rattle.tx_engine.specs.declared.engine.Phase.{Phase}
use Rattle.tx_engine.specs.declared.engine.Phase.TheVariants as phase
use Rattle.tx_engine.specs.declared.step.End.{End}
use Rattle.tx_engine.specs.declared.step.End.TheVariants as end
use Rattle.tx_engine.specs.declared.step.Step.{Step}
use Rattle.tx_engine.specs.declared.step.Step.TheVariants as step
use Rattle.tx_engine.specs.declared.step.Back.{Back}
use Rattle.tx_engine.specs.declared.step.Back.TheVariants as back
use Rattle.tx_engine.specs.Standing.{IsReady, Serves, Stands, Answered}

-- the operation that is due
abbrev pub due : Engine → Option Op
due e = asked e.run

-- From a session to the one after an operation, the engine works on over what is known and held, and stands for the same.
pub record Carries (After : Session → Session → Type 0) (old new : Engine) : Type 0 where
  pub serves : (before after : Session) → After before after → sessions.IsSound after → Serves before old → Serves after new
  pub stands : (before after : Session) → After before after → sessions.IsSound after → Serves before old → (s : State) (preamble : Bool) (text : List ℕ) (budget : ℕ) → Stands before old s preamble text budget → Stands after new s preamble text budget

-- what an answer keeps: the region goes on, and no more of it is left
pub record IsAnswered (old new : Engine) : Type 0 where
  pub phase : new.phase ≡ old.phase
  pub ready : (frozen : Map BoxNode) → IsReady frozen old → IsReady frozen new
  pub left : left new.run ≤ left old.run
  pub preamble : new.preamble ≡ old.preamble

-- an operation is for a release, or it is another one, for which memory may be wanting
abbrev pub IsForRelease : Op → Type 0
IsForRelease (op.Release id) = Unit {0}
IsForRelease _ = ⊥

abbrev pub IsRefusable : Op → Type 0
IsRefusable (op.Release id) = ⊥
IsRefusable _ = Unit {0}

-- what is asked for may be asked for
abbrev pub MayAsk : Session → Op → Type 0
MayAsk session (op.Text n) = IsSome (session.names n)
MayAsk session op.Share = HasRoom session
MayAsk session (op.Take id) = IsHeld session id × HasRoom session
MayAsk session (op.Release id) = IsHeld session id
MayAsk session (op.Read id) = IsHeld session id
MayAsk session _ = Unit {0}

-- a region has ended, and what comes behind it isn't through
abbrev pub IsEnding : Phase → Type 0
IsEnding phase.Idle = ⊥
IsEnding phase.Runs = ⊥
IsEnding _ = Unit {0}

-- What came of a tick: an operation is due, which may be asked for; or the region goes on, or has ended.
abbrev pub Ticks : Step → Engine → Type 0
Ticks step.Went e = e.phase ≡ phase.Runs
Ticks (step.Ask o) e = (e.phase ≡ phase.Runs) × (due e ≡ Some o) × ((session : Session) → Serves session e → MayAsk session o)
Ticks step.Ended e = IsEnding e.phase

-- the region goes on
abbrev pub IsGoing : Step → Type 0
IsGoing step.Ended = ⊥
IsGoing _ = Unit {0}

-- how far what comes behind a region is, and how much of it is left
abbrev pub rank : Phase → ℕ
rank (phase.Drops ended) = 3
rank phase.Keeps = 2
rank (phase.Undoes ended) = 2
rank (phase.Abandons ended) = 1
rank _ = 0

abbrev pub left_behind : Engine → ℕ
left_behind e = 3 * rank e.phase + hands e.run + length e.run.scene.environment.table.journal + entries_saved e.run.scene.environment

-- What comes behind a region goes on, over the session as it is, or over the one in which a list is released that fell
-- away; or it is through.
abbrev pub Backs : Back → Engine → Engine → Type 0
Backs back.Went old new =
    IsEnding new.phase × ((session : Session) → Serves session old → Serves session new)
    × ((session : Session) (s : State) (preamble : Bool) (text : List ℕ) (budget : ℕ) → Serves session old → Stands session old s preamble text budget → Stands session new s preamble text budget)
Backs (back.Releases id) old new =
    IsEnding new.phase × ((session : Session) → Serves session old → IsHeld session id) × Carries (λ before after. AfterRelease before id after) old new
Backs (back.Rests ended) old new =
    (new.phase ≡ phase.Idle) × ((session : Session) → Serves session old → Serves session new)
    × ((session : Session) (s : State) (preamble : Bool) (text : List ℕ) (budget : ℕ) → Serves session old → Stands session old s preamble text budget → Answered session new ended s preamble text budget)

-- a list that falls away, if there is one, is to be released
abbrev pub number_in : Option ℕ → ℕ
number_in fallen = option_map_or (λ id. 1) fallen 0

abbrev pub releasing : Option ℕ → Back
releasing (Some id) = back.Releases id
releasing None = back.Went

-- what comes behind a region that ended so, once nothing is in hand for it
abbrev pub phase_behind : End → Phase
phase_behind end.Done = phase.Keeps
phase_behind ended = phase.Undoes ended

-- it isn't through, and less of it is left
abbrev pub IsLessLeft : Back → Engine → Engine → Type 0
IsLessLeft (back.Rests ended) old new = Unit {0}
IsLessLeft _ old new = left_behind new < left_behind old
