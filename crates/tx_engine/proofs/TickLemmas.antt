-- How a region begins, goes on and ends, over what its session knows and holds.
use Rattle.std.proofs.Common.{◌≡◌, ℕ, ◌-◌, ◌<◌, ◌≤◌, ◌^◌, Bool, List, [], length, drop, get_or, Option, None, Some, IsSome, arith, refl, sym, ap, subst, ◌∙◌, true≢false, ◌⊎◌, inl, inr}
use Rattle.std.specs.Prelude.{IsSomeAnd}
use Rattle.std.specs.List.{list_any}
use Rattle.std.specs.Str.{bytes_eq}
use Rattle.std.specs.Option.{option_map_or}
use Rattle.tx_model.specs.declared.reply.Status.TheVariants as status
use Rattle.tx_node.specs.declared.BoxNode.{BoxNode}
use Rattle.tx_eqtb.specs.Addresses.{entry_at}
use Rattle.tx_eqtb.specs.Meanings.{Map, meanings}
use Rattle.tx_eqtb.specs.Tables.{Table, now, before, said}
use Rattle.tx_eqtb.specs.Steps.{KeepsBefore}
use Rattle.tx_save.specs.Saves.{groups, outside}
use Rattle.tx_format.specs.declared.state.Engineless.{Engineless}
use Rattle.tx_private.specs.Readings as private
use Rattle.tx_private.specs.Reads.{Result, Gave, Failed, Spent}
use Rattle.tx_private.specs.Region.{State, Outcome, Region, started, outcome_of, left_by}
use Rattle.tx_opens.proofs.Opens.{comes-to-end}
use Rattle.tx_views.specs.Views.{IsView}
use Rattle.tx_views.specs.Meanings.{map_in}
use Rattle.tx_environment.specs.States as environments
use Rattle.tx_environment.specs.States.{environment}
use Rattle.tx_environment.specs.Steps.{IsOutermost, alone}
use Rattle.tx_environment.proofs.LevelLemmas.{alone-is}
use Rattle.tx_environment.proofs.StepLemmas.{length-outside}
use Rattle.tx_input.specs.Owned.{texts_of}
use Rattle.tx_input.specs.Worlds.{IsOfFormat}
use Rattle.tx_store.specs.Sessions.{Session, Holding, IsNew}
use Rattle.tx_store.specs.Steps as store
use Rattle.tx_scene.specs.declared.scene.Scene.{Scene}
use Rattle.tx_scene.specs.Scenes.{Ground, IsGround, state_in, world}
use Rattle.tx_scene.specs.Changes.{KeepsGround}
use Rattle.tx_scene.specs.Knowledge.{KnowsScene}
use Rattle.tx_run.specs.declared.doing.Doing.{Doing}
use Rattle.tx_run.specs.declared.op.Op.{Op}
use Rattle.tx_run.specs.declared.op.Op.TheVariants as op
use Rattle.tx_run.specs.declared.op.Tick.{Tick}
use Rattle.tx_run.specs.declared.op.Tick.TheVariants as tick
use Rattle.tx_run.specs.declared.run.Run.{Run}
use Rattle.tx_run.specs.Runs.{Means, ComesFrom, LeadsFor, Keeps, IsGroundOf, asked, asked_by, asked_after}
use Rattle.tx_run.specs.Knowledge.{held_by, KnowsFormat, KnowsRun, KnowsOperation}
use Rattle.tx_engine.specs.declared.engine.Engine.{Engine}
use Rattle.tx_engine.specs.declared.engine.Phase.TheVariants as phase
use Rattle.tx_engine.specs.declared.step.End.{End}
use Rattle.tx_engine.specs.Agreement.{Agrees, known_names}
use Rattle.tx_engine.specs.Standing.{frozen_of, KnowsIn, Serves, state_before, reported, Runs, CameTo, CameToEnd, Stands, StandsIn}
use Rattle.tx_engine.specs.Steps.{IsRefusable, MayAsk}

-- where no region has set anything, the map before it is the map now
before-none : (frozen : Map BoxNode) (t : Table BoxNode) → t.journal ≡ [] → before frozen t ≡ now frozen t
before-none frozen t none = ap (λ journal at. option_map_or (said (frozen at)) (entry_at journal at) (now frozen t at)) none

-- outside of all groups the environment is the map now
alone-now : (g : Ground) (frozen : Map BoxNode) (e : environments.State) → IsOutermost e → environment g.view frozen e ≡ alone (map_in g.view (now frozen e.table))
alone-now g frozen e outermost =
    alone-is g.view (now frozen e.table) (outside frozen e.table e.saves) (groups e.saves) (length-outside frozen e.table e.saves) outermost

-- the numbers of the format's names are read as their texts
of-format : (session : Session) (format : Engineless) (g : Ground) → IsNew format session → Agrees session g → IsOfFormat g.formats g.view (length format.names)
of-format session format g new agrees = record {
  number = sym (ap length agrees.formats ∙ ap (λ (f : Engineless). length f.names) new.format);
  texts = λ n within.
      agrees.names n (get_or session.format.names n []) (new.sound.of_format n (subst (λ names. n < length names) agrees.formats within))
      ∙ ap (λ names. get_or names n []) (sym agrees.formats);
}

-- an engine at its beginning serves a new session
pub serves-new : (session : Session) (format : Engineless) (e : Engine) → IsNew format session → KnowsFormat (known_names session) format → ((id : ℕ) → held_by id e.run ≡ 0) → e.references ≡ 0 → KnowsIn (known_names session) e.phase e.run → ((g : Ground) → IsView g.view → IsOfFormat g.formats g.view (length format.names) → IsGround g e.run.scene) → Serves session e
serves-new session format e new knows held none run ground = record {
  sound = new.sound;
  format = subst (KnowsFormat (known_names session)) (sym new.format) knows;
  row = λ id. ap store.count_of (new.row id) ∙ sym (held id);
  total = new.total ∙ sym none;
  lists = λ id holding is. absurd (true≢false (sym (subst IsSome (sym is ∙ new.row id) refl)));
  knows = run;
  ground = λ g agrees. ground g agrees.view (of-format session format g new agrees);
}

-- the session is served on, where no reference is lost or made
pub serves-on : (session : Session) (old new : Engine) → Serves session old → new.references ≡ old.references → KeepsGround old.run.scene new.run.scene → ((id : ℕ) → held_by id new.run ≡ held_by id old.run) → KnowsIn (known_names session) new.phase new.run → Serves session new
serves-on session old new serves references ground held knows = record {
  sound = serves.sound;
  format = serves.format;
  row = λ id. serves.row id ∙ sym (held id);
  total = serves.total ∙ sym references;
  lists = serves.lists;
  knows = knows;
  ground = λ g agrees. ground g (serves.ground g agrees);
}

-- it is served after a tick that doesn't end the region, and after one that does
module _ (session : Session) (format : Engineless) (is : session.format ≡ format) (old : Engine) (runs : old.phase ≡ phase.Runs) (serves : Serves session old) (run : Run) (keeps : Keeps old.run run) (held : (id : ℕ) → held_by id run ≡ held_by id old.run) where
  names-after : {P : (ℕ → Bool) → Type 0} → ((names : ℕ → Bool) → KnowsFormat names format → KnowsRun names old.run → P names) → P (known_names session)
  names-after knows =
      knows (known_names session) (subst (KnowsFormat (known_names session)) is serves.format) (subst (λ p. KnowsIn (known_names session) p old.run) runs serves.knows)

  pub serves-going : ((names : ℕ → Bool) → KnowsFormat names format → KnowsRun names old.run → KnowsRun names run) → Serves session (record old { run = run })
  serves-going knows =
      serves-on session old (record old { run = run }) serves refl keeps.ground held
      (subst (λ p. KnowsIn (known_names session) p run) (sym runs) (names-after {P = λ names. KnowsRun names run} knows))

  pub serves-ended : (ended : End) (new : Engine) → new ≡ record old { run = run; phase = phase.Drops ended } → ((names : ℕ → Bool) → KnowsFormat names format → KnowsRun names old.run → KnowsScene names run.scene) → Serves session new
  serves-ended ended new new_is knows =
      subst (Serves session) (sym new_is)
      (serves-on session old (record old { run = run; phase = phase.Drops ended }) serves refl keeps.ground held (names-after {P = λ names. KnowsScene names run.scene} knows))

-- what agrees with the session reads the lists of its format, too
ground-of : (session : Session) (e : Engine) (g : Ground) → Serves session e → Agrees session g → IsGroundOf session.format g e.run.scene
ground-of session e g serves agrees = record { ground = serves.ground g agrees; lists = agrees.lists }

-- the way back stays
pub back-kept : (session : Session) (own : ℕ) (s : State) (old new : Scene) → KeepsBefore old.environment.table new.environment.table → new.input.names ≡ old.input.names → ((g : Ground) → Agrees session g → state_before g (frozen_of session) own old ≡ s) → (g : Ground) → Agrees session g → state_before g (frozen_of session) own new ≡ s
back-kept session own s old new kept names back g agrees =
    (λ i. record {
      map = map_in g.view (λ at. kept (frozen_of session) at i);
      frozen = λ text. list_any (bytes_eq text) g.formats;
      names = texts_of g.view.naming (drop (length (names i) - own) (names i));
    })
    ∙ back g agrees

-- where a region begins, the state from before it is the state now
pub back-begun : (g : Ground) (frozen : Map BoxNode) (own : ℕ) (s : State) (old new : Scene) → own ≡ length old.input.names → old.environment.table.journal ≡ [] → new.environment ≡ record old.environment { first = old.environment.cats } → new.input.names ≡ old.input.names → state_in g frozen old ≡ s → state_before g frozen own new ≡ s
back-begun g frozen own s old new own_is none environment_is names rests =
    let table = ap (λ (e : environments.State). e.table) environment_is in
    let map_is : before frozen new.environment.table ≡ now frozen old.environment.table = ap (before frozen) table ∙ before-none frozen old.environment.table none in
    let all : length old.input.names - length old.input.names ≡ 0 = omega arith in
    let names_are : drop (length new.input.names - own) new.input.names ≡ old.input.names = (λ i. drop (length (names i) - own_is i) (names i)) ∙ ap (λ n. drop n old.input.names) all in
    (λ i. record {
      map = map_in g.view (map_is i);
      frozen = λ text. list_any (bytes_eq text) g.formats;
      names = texts_of g.view.naming (names_are i);
    })
    ∙ rests

-- what comes from a region's beginning is what the region comes to
region-of : (s : State) (preamble : Bool) (text : List ℕ) (budget : ℕ) (r : Result) (outcome : Outcome) (after : State) → ComesFrom s preamble text budget r → outcome_of r ≡ outcome → left_by s r ≡ after → Region s preamble text budget outcome after
region-of s preamble text budget r outcome after comes is leaves =
    let end = comes-to-end private.Control (started s preamble text budget) r comes in
    record { result = end.0; run = end.1; is = end.2.outcome ∙ is; leaves = end.2.left s ∙ leaves }

-- where no group is open at its end, a region leaves the state of the scene
leaves-state : (g : Ground) (frozen : Map BoxNode) (own : ℕ) (s : State) (old new : Scene) → IsOutermost new.environment → state_before g frozen own old ≡ s → left_by s (Gave private.TextEnd (world g frozen 0 new)) ≡ state_in g frozen new
leaves-state g frozen own s old new outermost back =
    let alone_is = alone-now g frozen new.environment outermost in
    let was = sym back in
    λ i. record {
      map = (alone_is i).outside;
      frozen = (was i).frozen;
      names = texts_of g.view.naming new.input.names;
    }

-- the region runs, and goes on to run
pub runs-of : (session : Session) (e : Engine) (s : State) (preamble : Bool) (text : List ℕ) (budget : ℕ) → e.phase ≡ phase.Runs → Stands session e s preamble text budget → Runs session e s preamble text budget
runs-of session e s preamble text budget runs stands = subst (λ p. StandsIn p session e s preamble text budget) runs stands

pub stands-of : (session : Session) (e : Engine) (s : State) (preamble : Bool) (text : List ℕ) (budget : ℕ) → e.phase ≡ phase.Runs → Runs session e s preamble text budget → Stands session e s preamble text budget
stands-of session e s preamble text budget runs stands = subst (λ p. StandsIn p session e s preamble text budget) (sym runs) stands

-- what a tick leads to, over a format
abbrev pub LeadsOver : Run → Tick → Run → Engineless → Type 0
LeadsOver old result new format = LeadsFor format (λ g. Means g (meanings format.frozen) old) old.scene result new

module _ (session : Session) (old : Engine) (s : State) (preamble : Bool) (text : List ℕ) (budget : ℕ) (serves : Serves session old) (runs : Runs session old s preamble text budget) (run : Run) where
  -- the region goes on
  pub runs-on : ((g : Ground) → IsGroundOf session.format g old.run.scene → (r : Result) → Means g (frozen_of session) run r → Means g (frozen_of session) old.run r) → KeepsBefore old.run.scene.environment.table run.scene.environment.table → run.scene.input.names ≡ old.run.scene.input.names → Runs session (record old { run = run }) s preamble text budget
  runs-on leads kept names = record {
    means = λ g agrees r means. runs.means g agrees r (leads g (ground-of session old g serves agrees) r means);
    names = subst (λ own. old.names ≤ length own) (sym names) runs.names;
    back = back-kept session old.names s old.run.scene run.scene kept names runs.back;
  }

  -- it came to its end
  pub came-to-end : LeadsOver old.run tick.Done run session.format → IsOutermost run.scene.environment → CameToEnd session (record old { run = run }) s preamble text budget
  came-to-end leads outermost = λ g agrees.
      let w = world g (frozen_of session) 0 run.scene in
      let r = Gave private.TextEnd w in
      let after = state_in g (frozen_of session) run.scene in
      let comes = runs.means g agrees r (leads g (ground-of session old g serves agrees)) in
      let leaves = leaves-state g (frozen_of session) old.names s old.run.scene run.scene outermost (runs.back g agrees) in
      region-of s preamble text budget r (reported status.Done run.scene) after comes refl leaves

  -- an error ended it
  pub came-to-fail : LeadsOver old.run tick.Failed run session.format → CameTo session (record old { run = run }) status.Fail s preamble text budget
  came-to-fail leads = λ g agrees.
      let led = leads g (ground-of session old g serves agrees) in
      region-of s preamble text budget (Failed led.0) (reported status.Fail run.scene) s (runs.means g agrees (Failed led.0) led.1) led.2 refl

  -- no step was left
  pub came-to-spent : LeadsOver old.run tick.Spent run session.format → CameTo session (record old { run = run }) status.Spent s preamble text budget
  came-to-spent leads = λ g agrees.
      let r = Spent (world g (frozen_of session) 0 run.scene).output in
      region-of s preamble text budget r (reported status.Spent run.scene) s (runs.means g agrees r (leads g (ground-of session old g serves agrees))) refl refl

-- a number that is held is there
held-some : (h : Option Holding) (n : ℕ) → store.count_of h ≡ n → 0 < n → IsSome h
held-some None n is held = absurd (omega (arith, is, held))
held-some (Some h) n is held = refl

-- an operation is for a reference more
abbrev pub IsForReference : Op → Type 0
IsForReference o = (o ≡ op.Share) ⊎ ((id : ℕ) × (o ≡ op.Take id))

-- such a one is asked for by what is about to be done
by-doing : (o : Op) (fallen : Option ℕ) (d : Doing) → asked_after fallen d ≡ Some o → IsRefusable o → IsSome (asked_by d)
by-doing o None d is refusable = subst IsSome (sym is) refl
by-doing o (Some id) d is refusable = absurd (subst (λ x. IsSomeAnd x IsRefusable) (sym is) refusable)

pub reference-by-doing : (o : Op) (run : Run) → asked run ≡ Some o → IsForReference o → IsSome (asked_by run.doing)
reference-by-doing o run is (inl share) = by-doing o run.fallen run.doing is (subst IsRefusable (sym share) tt)
reference-by-doing o run is (inr take) = by-doing o run.fallen run.doing is (subst IsRefusable (sym take.1) tt)

-- what a run asks for may be asked for, where there is room for a reference that it is for
pub may-ask : (session : Session) (e : Engine) (o : Op) → Serves session e → KnowsOperation (known_names session) o e.run → (IsForReference o → e.references < 2 ^ 28 - 1) → MayAsk session o
may-ask session e (op.Text n) serves known room = known
may-ask session e op.Share serves known room = subst (λ n. n < 2 ^ 28 - 1) (sym serves.total) (room (inl refl))
may-ask session e (op.Take id) serves known room =
    (held-some (session.row id) (held_by id e.run) (serves.row id) known, subst (λ n. n < 2 ^ 28 - 1) (sym serves.total) (room (inr (id, refl))))
may-ask session e (op.Release id) serves known room = held-some (session.row id) (held_by id e.run) (serves.row id) known
may-ask session e (op.Read id) serves known room = held-some (session.row id) (held_by id e.run) (serves.row id) known
may-ask session e _ serves known room = tt
