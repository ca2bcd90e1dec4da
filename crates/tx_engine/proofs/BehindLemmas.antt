-- What a step behind a region does: a list may fall away, which is released before the next step.
use Rattle.std.proofs.Common.{◌≡◌, ℕ, ◌+◌, ◌-◌, ◌<◌, ◌≤◌, Bool, List, [], ◌++◌, length, drop, Option, None, Some, is_some, IsSome, arith, refl, sym, ap, subst, ◌∙◌}
use Rattle.std.specs.Prelude.{option_and_then}
use Rattle.std.specs.List.{list_any}
use Rattle.std.specs.Str.{bytes_eq}
use Rattle.std.specs.Option.{option_to_list, option_map_or}
use Rattle.tx_model.specs.declared.reply.Status.{Status}
use Rattle.tx_model.specs.declared.reply.Status.TheVariants as status
use Rattle.tx_node.specs.declared.BoxNode.{BoxNode}
use Rattle.tx_eqtb.specs.declared.addr.Addr.{Addr}
use Rattle.tx_eqtb.specs.declared.meaning.Meaning.{Meaning}
use Rattle.tx_eqtb.specs.declared.meaning.Before.{Before}
use Rattle.tx_eqtb.specs.Addresses.{entry_at}
use Rattle.tx_eqtb.specs.Meanings.{Map, meanings}
use Rattle.tx_eqtb.specs.Tables.{Table, SameCounts, now, before, said}
use Rattle.tx_eqtb.specs.Steps.{KeepsNow, KeepsBefore}
use Rattle.tx_save.specs.declared.group.Closed.{Closed}
use Rattle.tx_save.specs.declared.group.Closed.TheVariants as closed
use Rattle.tx_save.specs.Saves.{Saves, Abandons, groups, groups_of, dropped, all_held}
use Rattle.tx_private.specs.Region.{State, Region}
use Rattle.tx_views.specs.Views.{View}
use Rattle.tx_views.specs.Meanings.{map_in}
use Rattle.tx_environment.specs.States as environments
use Rattle.tx_environment.specs.Soundness.{IsPresent, IsFirst}
use Rattle.tx_environment.specs.Steps.{held, entries_saved, IsOutermost}
use Rattle.tx_environment.specs.Holding.{counted, pooled_of, HasNoPooled}
use Rattle.tx_environment.proofs.HoldingLemmas.{counts-handed}
use Rattle.tx_format.specs.declared.state.Engineless.{Engineless}
use Rattle.tx_input.specs.declared.input.Input.{Input}
use Rattle.tx_input.specs.Owned.{texts_of}
use Rattle.tx_input.specs.Worlds.{AllKnown, KnowsInput, IsOf}
use Rattle.tx_store.specs.Sessions as sessions
use Rattle.tx_store.specs.Sessions.{Session, Holding}
use Rattle.tx_store.specs.Steps.{count_of, content_of, IsHeld, AfterRelease}
use Rattle.tx_scene.specs.declared.scene.Scene.{Scene}
use Rattle.tx_scene.specs.Scenes.{Ground, IsGround, state_in}
use Rattle.tx_scene.specs.Changes.{KeepsGround}
use Rattle.tx_scene.specs.Knowledge.{KnowsScene, KnowsGroups, ending}
use Rattle.tx_run.specs.declared.doing.Doing.{Doing}
use Rattle.tx_run.specs.declared.doing.Doing.TheVariants as doing
use Rattle.tx_run.specs.declared.run.Run.{Run}
use Rattle.tx_run.specs.Knowledge.{counts_as, held_by, hands, hands_of, IsEmptyHanded}
use Rattle.tx_run.proofs.KnowledgeLemmas.{falls-as}
use Rattle.tx_contents.specs.Contents.{SameGround, IsHeldIn}
use Rattle.tx_engine.specs.declared.engine.Engine.{Engine}
use Rattle.tx_engine.specs.declared.engine.Phase.{Phase}
use Rattle.tx_engine.specs.declared.engine.Phase.TheVariants as phase
use Rattle.tx_engine.specs.declared.step.End.{End}
use Rattle.tx_engine.specs.declared.step.End.TheVariants as end
use Rattle.tx_engine.specs.declared.step.Back.{Back}
use Rattle.tx_engine.specs.declared.step.Back.TheVariants as back
use Rattle.tx_engine.specs.Agreement.{Agrees, known_names}
use Rattle.tx_engine.specs.Standing.{IsReady, IsReadyIn, IsEnded, IsUndone, KnowsIn, Serves, Stands, StandsIn, HasEnded, CameTo, CameToEnd, LeadsBack, Rests, Answered, frozen_of, reported, state_before}
use Rattle.tx_engine.specs.Steps.{Backs, Carries, IsEnding, IsLessLeft, left_behind, rank, number_in, releasing, phase_behind}
use Rattle.tx_engine.proofs.AgreementLemmas.{same-knows, knows-format, some-held, counts-same, row-less, known-lists, known-content, ground_with, ground-without, agrees-released, same-released}

-- no region runs
abbrev IsStill : Phase → Type 0
IsStill phase.Runs = ⊥
IsStill _ = Unit {0}

ending-still : (p : Phase) → IsEnding p → IsStill p
ending-still phase.Idle is = absurd is
ending-still phase.Runs is = is
ending-still (phase.Drops ended) is = tt
ending-still phase.Keeps is = tt
ending-still (phase.Undoes ended) is = tt
ending-still (phase.Abandons ended) is = tt

still-knows : (names : ℕ → Bool) (p : Phase) (run : Run) → IsStill p → KnowsIn names p run → KnowsScene names run.scene
still-knows names phase.Runs run is h = absurd is
still-knows names phase.Idle run is h = h
still-knows names (phase.Drops ended) run is h = h
still-knows names phase.Keeps run is h = h
still-knows names (phase.Undoes ended) run is h = h
still-knows names (phase.Abandons ended) run is h = h

knows-still : (names : ℕ → Bool) (p : Phase) (run : Run) → IsStill p → KnowsScene names run.scene → KnowsIn names p run
knows-still names phase.Runs run is h = absurd is
knows-still names phase.Idle run is h = h
knows-still names (phase.Drops ended) run is h = h
knows-still names phase.Keeps run is h = h
knows-still names (phase.Undoes ended) run is h = h
knows-still names (phase.Abandons ended) run is h = h

-- From one engine to the other a list falls away, if there is one, and no other reference is lost or made.
record Falls (fallen : Option ℕ) (old new : Engine) : Type 0 where
  pub was : IsStill old.phase
  pub is : IsStill new.phase
  pub held : (id : ℕ) → held_by id new.run + counts_as id fallen ≡ held_by id old.run
  pub references : new.references ≡ old.references - number_in fallen
  pub knows : (names : ℕ → Bool) → KnowsScene names old.run.scene → KnowsScene names new.run.scene
  pub ground : KeepsGround old.run.scene new.run.scene

-- what the engine stands for stays, over the same session
abbrev Goes : Engine → Engine → Type 0
Goes old new = (session : Session) (s : State) (preamble : Bool) (text : List ℕ) (budget : ℕ) → Serves session old → Stands session old s preamble text budget → Stands session new s preamble text budget

-- none falls away
serves-went : (session : Session) (old new : Engine) → Falls None old new → Serves session old → Serves session new
serves-went session old new falls serves = record {
  sound = serves.sound;
  format = serves.format;
  row = λ id. omega (arith, serves.row id, falls.held id);
  total = omega (arith, serves.total, falls.references);
  lists = serves.lists;
  knows = knows-still (known_names session) new.phase new.run falls.is (falls.knows (known_names session) (still-knows (known_names session) old.phase old.run falls.was serves.knows));
  ground = λ g agrees. falls.ground g (serves.ground g agrees);
}

-- one falls away, and is released
module _ (earlier : Session) (id : ℕ) (old new : Engine) (falls : Falls (Some id) old new) (serves : Serves earlier old) where
  is-counted : 0 < count_of (earlier.row id)
  is-counted = omega (arith, serves.row id, falls.held id, counts-same id)

  is-held : IsHeld earlier id
  is-held = subst (λ (o : Option Holding). IsSome o) (sym (some-held (earlier.row id) is-counted).1) refl

  serves-released : (later : Session) → AfterRelease earlier id later → sessions.IsSound later → Serves later new
  serves-released later after sound =
      let names : known_names earlier ≡ known_names later = λ i n. is_some (sym (after.names.names n) i) in
      let content = content_of (earlier.row id) in
      let count = count_of (earlier.row id) - 1 in
      let all = earlier.total - 1 in
      let knows = knows-still (known_names earlier) new.phase new.run falls.is (falls.knows (known_names earlier) (still-knows (known_names earlier) old.phase old.run falls.was serves.knows)) in
      let lists = known-lists earlier later id content (known_names earlier) count all after (known-content (known_names earlier) (earlier.row id) (serves.lists id)) serves.lists in
      record {
        sound = sound;
        format = knows-format (same-knows after.names) serves.format;
        row = λ k. omega (arith, row-less earlier later id content all is-counted after k, serves.row k, falls.held k);
        total = omega (arith, serves.total, falls.references, after.total);
        lists = subst (λ (n : ℕ → Bool). (k : ℕ) (h : Holding) → later.row k ≡ Some h → AllKnown n h.content) names lists;
        knows = subst (λ (n : ℕ → Bool). KnowsIn n new.phase new.run) names knows;
        ground = λ g agrees.
            let with_list = ground_with g id content in
            ground-without g id content new.run.scene (falls.ground with_list (serves.ground with_list (agrees-released earlier later id after g agrees)));
      }

-- The maps of a scene are the same where the lists that it holds are read the same.
abbrev SameNow : Type 0
SameNow = (g h : Ground) (frozen : Map BoxNode) (s : Scene) → HasNoPooled frozen → SameGround (IsHeldIn s) g h → map_in g.view (now frozen s.environment.table) ≡ map_in h.view (now frozen s.environment.table)

abbrev SameBefore : Type 0
SameBefore = (g h : Ground) (frozen : Map BoxNode) (s : Scene) → HasNoPooled frozen → SameGround (IsHeldIn s) g h → map_in g.view (before frozen s.environment.table) ≡ map_in h.view (before frozen s.environment.table)

module _ (now_same : SameNow) (before_same : SameBefore) where
  module _ (earlier later : Session) (id : ℕ) (e : Engine) (after : AfterRelease earlier id later) (none : HasNoPooled (frozen_of earlier)) (row : (k : ℕ) → count_of (later.row k) ≡ held_by k e.run) where
    -- the reading from before the release
    abbrev earlier_ground : Ground → Ground
    earlier_ground g = ground_with g id (content_of (earlier.row id))

    read-same : (g : Ground) → Agrees later g → SameGround (IsHeldIn e.run.scene) g (earlier_ground g)
    read-same g agrees = same-released earlier later id after g agrees (IsHeldIn e.run.scene) (λ k more. omega (arith, row k, more))

    state-same : (g : Ground) → Agrees later g → state_in g (frozen_of later) e.run.scene ≡ state_in (earlier_ground g) (frozen_of earlier) e.run.scene
    state-same g agrees =
        let same = now_same g (earlier_ground g) (frozen_of earlier) e.run.scene none (read-same g agrees) in
        ap (λ (f : Engineless). state_in g (meanings f.frozen) e.run.scene) after.names.format
        ∙ (λ i. record { map = same i; frozen = λ text. list_any (bytes_eq text) g.formats; names = texts_of g.view.naming e.run.scene.input.names })

    back-same : (g : Ground) → Agrees later g → state_before g (frozen_of later) e.names e.run.scene ≡ state_before (earlier_ground g) (frozen_of earlier) e.names e.run.scene
    back-same g agrees =
        let same = before_same g (earlier_ground g) (frozen_of earlier) e.run.scene none (read-same g agrees) in
        ap (λ (f : Engineless). state_before g (meanings f.frozen) e.names e.run.scene) after.names.format
        ∙ (λ i. record { map = same i; frozen = λ text. list_any (bytes_eq text) g.formats; names = texts_of g.view.naming (drop (length e.run.scene.input.names - e.names) e.run.scene.input.names) })

    module _ (s : State) (preamble : Bool) (text : List ℕ) (budget : ℕ) where
      end-released : CameToEnd earlier e s preamble text budget → CameToEnd later e s preamble text budget
      end-released came g agrees =
          subst (λ (x : State). Region s preamble text budget (reported status.Done e.run.scene) x) (sym (state-same g agrees)) (came (earlier_ground g) (agrees-released earlier later id after g agrees))

      came-released : (z : Status) → CameTo earlier e z s preamble text budget → CameTo later e z s preamble text budget
      came-released z came g agrees = came (earlier_ground g) (agrees-released earlier later id after g agrees)

      back-released : LeadsBack earlier e s → LeadsBack later e s
      back-released back g agrees = back-same g agrees ∙ back (earlier_ground g) (agrees-released earlier later id after g agrees)

      ended-released : (ended : End) → HasEnded earlier e ended s preamble text budget → HasEnded later e ended s preamble text budget
      ended-released end.Done h = end-released h
      ended-released end.Failed h = (came-released status.Fail h.0, back-released h.1)
      ended-released end.Spent h = (came-released status.Spent h.0, back-released h.1)
      ended-released end.Memory h = back-released h

      stands-released : (p : Phase) → IsEnding p → StandsIn p earlier e s preamble text budget → StandsIn p later e s preamble text budget
      stands-released phase.Idle is h = absurd is
      stands-released phase.Runs is h = absurd is
      stands-released (phase.Drops ended) is h = ended-released ended h
      stands-released phase.Keeps is h = end-released h
      stands-released (phase.Undoes ended) is h = ended-released ended h
      stands-released (phase.Abandons ended) is h = ended-released ended h

  carries : (id : ℕ) (old new : Engine) → IsEnding new.phase → Falls (Some id) old new → Goes old new → Carries (λ before after. AfterRelease before id after) old new
  carries id old new is falls goes = record {
    serves = λ earlier later after sound serves. serves-released earlier id old new falls serves later after sound;
    stands = λ earlier later after sound serves s preamble text budget h.
        let there = serves-released earlier id old new falls serves later after sound in
        stands-released earlier later id new after serves.format.none there.row s preamble text budget new.phase is (goes earlier s preamble text budget serves h);
  }

  -- what comes of a step
  backs : (fallen : Option ℕ) (old new : Engine) → IsEnding new.phase → Falls fallen old new → Goes old new → Backs (releasing fallen) old new
  backs None old new is falls goes = (is, (λ session. serves-went session old new falls), goes)
  backs (Some id) old new is falls goes = (is, (λ session. is-held session id old new falls), carries id old new is falls goes)

less-left : (fallen : Option ℕ) (old new : Engine) → left_behind new < left_behind old → IsLessLeft (releasing fallen) old new
less-left None old new less = less
less-left (Some id) old new less = less

-- The environment becomes another one.
abbrev scene_with : environments.State → Scene → Scene
scene_with e s = record s { environment = e }

abbrev engine_with : Engine → environments.State → ℕ → Phase → Engine
engine_with old e count p = record old { run = record old.run { scene = scene_with e old.run.scene }; phase = p; references = count }

module _ (old : Engine) (e : environments.State) (count : ℕ) (p : Phase) where
  falls-by : (out : List (Meaning BoxNode)) (fallen : Option ℕ) → IsStill old.phase → IsStill p → SameCounts (held old.run.scene.environment) (out ++ held e) → ((id : ℕ) → counted id out ≡ counts_as id fallen) → ((names : ℕ → Bool) → KnowsGroups names (groups old.run.scene.environment.saves) → KnowsGroups names (groups e.saves)) → count ≡ old.references - number_in fallen → Falls fallen old (engine_with old e count p)
  falls-by out fallen was is same counts known references_is = record {
    was = was;
    is = is;
    held = λ id. omega (arith, counts-handed id out (held old.run.scene.environment) (held e) same, counts id);
    references = references_is;
    knows = λ names scene. record { input = scene.input; kept = scene.kept; groups = known names scene.groups };
    ground = λ g is. record { view = is.view; formats = is.formats };
  }

  module _ (session : Session) (s : State) (preamble : Bool) (text : List ℕ) (budget : ℕ) where
    -- what the region set is kept
    came-kept : KeepsNow old.run.scene.environment.table e.table → CameToEnd session old s preamble text budget → CameToEnd session (engine_with old e count p) s preamble text budget
    came-kept keeps came g agrees =
        let same : state_in g (frozen_of session) old.run.scene ≡ state_in g (frozen_of session) (scene_with e old.run.scene) =
        λ i. record { map = map_in g.view (λ q. sym (keeps (frozen_of session) q) i); frozen = λ text. list_any (bytes_eq text) g.formats; names = texts_of g.view.naming old.run.scene.input.names } in
        subst (λ (x : State). Region s preamble text budget (reported status.Done old.run.scene) x) same (came g agrees)

    -- or the way back stays
    leads-kept : KeepsBefore old.run.scene.environment.table e.table → LeadsBack session old s → LeadsBack session (engine_with old e count p) s
    leads-kept keeps back g agrees =
        let same : state_before g (frozen_of session) old.names (scene_with e old.run.scene) ≡ state_before g (frozen_of session) old.names old.run.scene =
        λ i. record { map = map_in g.view (λ q. keeps (frozen_of session) q i); frozen = λ text. list_any (bytes_eq text) g.formats; names = texts_of g.view.naming (drop (length old.run.scene.input.names - old.names) old.run.scene.input.names) } in
        same ∙ back g agrees

    ended-kept : (ended : End) → IsUndone ended → KeepsBefore old.run.scene.environment.table e.table → HasEnded session old ended s preamble text budget → HasEnded session (engine_with old e count p) ended s preamble text budget
    ended-kept end.Done undone keeps h = absurd undone
    ended-kept end.Failed undone keeps h = (h.0, leads-kept keeps h.1)
    ended-kept end.Spent undone keeps h = (h.0, leads-kept keeps h.1)
    ended-kept end.Memory undone keeps h = leads-kept keeps h

-- Groups that are given up.
groups-known : (known : ℕ → Bool) (old new : Saves BoxNode) (step : Closed BoxNode) → Abandons old step new → KnowsGroups known (groups old) → KnowsGroups known (groups new)
groups-known known old new (closed.Dropped m) gives h = subst (KnowsGroups known) (sym gives.0) h
groups-known known old new (closed.End kind after) gives h = (subst (KnowsGroups known) gives.0 h).1

-- At most two lists are in hand.
few-fallen : (fallen : Option ℕ) → option_map_or (λ id. 1) fallen 0 ≤ 1
few-fallen None = omega arith
few-fallen (Some id) = omega arith

few-doing : (d : Doing) → hands_of d ≤ 1
few-doing (doing.Assigns p place m) = omega arith
few-doing _ = omega arith

few-hands : (run : Run) → hands run ≤ 2
few-hands run = omega (arith, few-fallen run.fallen, few-doing run.doing)

-- a phase that is known
goes-in : (old new : Engine) (p q : Phase) → old.phase ≡ p → new.phase ≡ q → ((session : Session) (s : State) (preamble : Bool) (text : List ℕ) (budget : ℕ) → StandsIn p session old s preamble text budget → StandsIn q session new s preamble text budget) → Goes old new
goes-in old new p q was is goes session s preamble text budget serves h =
    subst (λ (x : Phase). StandsIn x session new s preamble text budget) (sym is) (goes session s preamble text budget (subst (λ (x : Phase). StandsIn x session old s preamble text budget) was h))

-- What comes of a step, by its result.
backs-as : SameNow → SameBefore → (fallen : Option ℕ) (result : Back) (old mid new : Engine) → result ≡ releasing fallen → new ≡ mid → IsEnding mid.phase → Falls fallen old mid → Goes old mid → Backs result old new
backs-as now_same before_same fallen result old mid new result_is new_is is falls goes =
    subst (λ (e : Engine). Backs result old e) (sym new_is) (subst (λ (b : Back). Backs b old mid) (sym result_is) (backs now_same before_same fallen old mid is falls goes))

pub less-as : (fallen : Option ℕ) (result : Back) (old new : Engine) → result ≡ releasing fallen → left_behind new < left_behind old → IsLessLeft result old new
less-as fallen result old new result_is less = subst (λ (b : Back). IsLessLeft b old new) (sym result_is) (less-left fallen old new less)

-- The run becomes another one, with the same scene.
abbrev pub engine_of : Engine → Run → ℕ → Phase → Engine
engine_of old run count p = record old { run = run; phase = p; references = count }

module _ (old : Engine) (run : Run) (same : run.scene ≡ old.run.scene) (count : ℕ) (p : Phase) where
  falls-in-hand : (fallen : Option ℕ) → IsStill old.phase → IsStill p → ((id : ℕ) → held_by id run + counts_as id fallen ≡ held_by id old.run) → count ≡ old.references - number_in fallen → Falls fallen old (engine_of old run count p)
  falls-in-hand fallen was is held references_is = record {
    was = was;
    is = is;
    held = held;
    references = references_is;
    knows = λ names scene. subst (KnowsScene names) (sym same) scene;
    ground = λ g is. subst (IsGround g) (sym same) is;
  }

  module _ (session : Session) (s : State) (preamble : Bool) (text : List ℕ) (budget : ℕ) where
    came-same : (z : Status) → CameTo session old z s preamble text budget → CameTo session (engine_of old run count p) z s preamble text budget
    came-same z = subst (λ (x : Scene). (g : Ground) → Agrees session g → Region s preamble text budget (reported z x) s) (sym same)

    end-same : CameToEnd session old s preamble text budget → CameToEnd session (engine_of old run count p) s preamble text budget
    end-same = subst (λ (x : Scene). (g : Ground) → Agrees session g → Region s preamble text budget (reported status.Done x) (state_in g (frozen_of session) x)) (sym same)

    leads-same : LeadsBack session old s → LeadsBack session (engine_of old run count p) s
    leads-same = subst (λ (x : Scene). (g : Ground) → Agrees session g → state_before g (frozen_of session) old.names x ≡ s) (sym same)

    -- what came of the region stays
    ended-same : (ended : End) → HasEnded session old ended s preamble text budget → HasEnded session (engine_of old run count p) ended s preamble text budget
    ended-same end.Done h = end-same h
    ended-same end.Failed h = (came-same status.Fail h.0, leads-same h.1)
    ended-same end.Spent h = (came-same status.Spent h.0, leads-same h.1)
    ended-same end.Memory h = leads-same h

-- What comes once nothing is in hand.
behind-ending : (ended : End) → IsEnding (phase_behind ended)
behind-ending end.Done = tt
behind-ending end.Failed = tt
behind-ending end.Spent = tt
behind-ending end.Memory = tt

behind-rank : (ended : End) → rank (phase_behind ended) ≡ 2
behind-rank end.Done = refl
behind-rank end.Failed = refl
behind-rank end.Spent = refl
behind-rank end.Memory = refl

behind-stands : (ended : End) (session : Session) (e : Engine) (s : State) (preamble : Bool) (text : List ℕ) (budget : ℕ) → HasEnded session e ended s preamble text budget → StandsIn (phase_behind ended) session e s preamble text budget
behind-stands end.Done session e s preamble text budget h = h
behind-stands end.Failed session e s preamble text budget h = h
behind-stands end.Spent session e s preamble text budget h = h
behind-stands end.Memory session e s preamble text budget h = h

behind-ready : (frozen : Map BoxNode) (ended : End) (run : Run) → IsEnded frozen ended run.scene → IsEmptyHanded run → IsReadyIn frozen (phase_behind ended) run
behind-ready frozen end.Done run h empty = (h.0.present, h.1, empty)
behind-ready frozen end.Failed run h empty = (tt, h, empty)
behind-ready frozen end.Spent run h empty = (tt, h, empty)
behind-ready frozen end.Memory run h empty = (tt, h, empty)

-- What was in hand falls away.
module _ (old : Engine) (ended : End) (was : old.phase ≡ phase.Drops ended) (run : Run) (same : run.scene ≡ old.run.scene) where
  was-still : IsStill old.phase
  was-still = subst IsStill (sym was) tt

  drops-goes : (count : ℕ) → Goes old (engine_of old run count old.phase)
  drops-goes count =
      goes-in old (engine_of old run count old.phase) (phase.Drops ended) (phase.Drops ended) was was (λ session s preamble text budget. ended-same old run same count old.phase session s preamble text budget ended)

  pub drops-one : SameNow → SameBefore → (id count : ℕ) (result : Back) (new : Engine) → ((k : ℕ) → held_by k run + counts_as k (Some id) ≡ held_by k old.run) → new ≡ engine_of old run count old.phase → count ≡ old.references - number_in (Some id) → result ≡ releasing (Some id) → Backs result old new
  drops-one now_same before_same id count result new held new_is count_is result_is =
      backs-as now_same before_same (Some id) result old (engine_of old run count old.phase) new result_is new_is (subst IsEnding (sym was) tt) (falls-in-hand old run same count old.phase (Some id) was-still was-still held count_is) (drops-goes count)

  pub drops-last : SameNow → SameBefore → ((k : ℕ) → held_by k run + counts_as k None ≡ held_by k old.run) → Backs back.Went old (engine_of old run old.references (phase_behind ended))
  drops-last now_same before_same held =
      let p = phase_behind ended in
      let new = engine_of old run old.references p in
      let is = behind-ending ended in
      backs now_same before_same None old new is
      (falls-in-hand old run same old.references p None was-still (ending-still p is) held (omega arith))
      (goes-in old new (phase.Drops ended) p was refl (λ session s preamble text budget h. behind-stands ended session new s preamble text budget (ended-same old run same old.references p session s preamble text budget ended h)))

  pub drops-ready : (frozen : Map BoxNode) (count : ℕ) → IsReady frozen old → IsReady frozen (engine_of old run count old.phase)
  drops-ready frozen count ready =
      subst (λ (x : Phase). IsReadyIn frozen x run) (sym was) (subst (λ (x : Scene). IsEnded frozen ended x) (sym same) (subst (λ (x : Phase). IsReadyIn frozen x old.run) was ready))

  pub drops-ready-last : (frozen : Map BoxNode) → IsEmptyHanded run → IsReady frozen old → IsReadyIn frozen (phase_behind ended) run
  drops-ready-last frozen empty ready =
      behind-ready frozen ended run (subst (λ (x : Scene). IsEnded frozen ended x) (sym same) (subst (λ (x : Phase). IsReadyIn frozen x old.run) was ready)) empty

  ranks : rank old.phase ≡ 3
  ranks = ap rank was

  journals : length run.scene.environment.table.journal ≡ length old.run.scene.environment.table.journal
  journals = ap (λ (x : Scene). length x.environment.table.journal) same

  entries : entries_saved run.scene.environment ≡ entries_saved old.run.scene.environment
  entries = ap (λ (x : Scene). entries_saved x.environment) same

  pub drops-less : (count : ℕ) → hands run < hands old.run → left_behind (engine_of old run count old.phase) < left_behind old
  drops-less count fewer = omega (arith, fewer, journals, entries)

  pub drops-less-last : left_behind (engine_of old run old.references (phase_behind ended)) < left_behind old
  drops-less-last = omega (arith, few-hands run, ranks, behind-rank ended, journals, entries)

-- The environment takes a step.
module _ (old : Engine) (e : environments.State) where
  falls-out : (out : Option (Meaning BoxNode)) (count : ℕ) (p : Phase) (fallen : Option ℕ) → IsStill old.phase → IsStill p → e.saves ≡ old.run.scene.environment.saves → SameCounts (held old.run.scene.environment) (option_to_list out ++ held e) → fallen ≡ option_and_then pooled_of out → count ≡ old.references - number_in fallen → Falls fallen old (engine_with old e count p)
  falls-out out count p fallen was is saves same fallen_is =
      falls-by old e count p (option_to_list out) fallen was is same (λ id. sym (falls-as id out fallen fallen_is)) (λ names. subst (λ (x : Saves BoxNode). KnowsGroups names (groups x)) (sym saves))

  empty-same : (count : ℕ) (p : Phase) → IsEmptyHanded old.run → IsEmptyHanded (engine_with old e count p).run
  empty-same count p empty = record { fallen = empty.fallen; doing = empty.doing }

  saved-same : e.saves ≡ old.run.scene.environment.saves → entries_saved e ≡ entries_saved old.run.scene.environment
  saved-same saves = ap (λ (x : Saves BoxNode). length x.stack) saves

  -- what was set is kept
  module _ (was : old.phase ≡ phase.Keeps) (saves : e.saves ≡ old.run.scene.environment.saves) where
    keeps-still : IsStill old.phase
    keeps-still = subst IsStill (sym was) tt

    pub keeps-one : SameNow → SameBefore → (m : Meaning BoxNode) (fallen : Option ℕ) (count : ℕ) (result : Back) (new : Engine) → KeepsNow old.run.scene.environment.table e.table → SameCounts (held old.run.scene.environment) (option_to_list (Some m) ++ held e) → fallen ≡ pooled_of m → new ≡ engine_with old e count old.phase → count ≡ old.references - number_in fallen → result ≡ releasing fallen → Backs result old new
    keeps-one now_same before_same m fallen count result new keeps same fallen_is new_is count_is result_is =
        backs-as now_same before_same fallen result old (engine_with old e count old.phase) new result_is new_is (subst IsEnding (sym was) tt) (falls-out (Some m) count old.phase fallen keeps-still keeps-still saves same fallen_is count_is)
        (goes-in old (engine_with old e count old.phase) phase.Keeps phase.Keeps was was (λ session s preamble text budget. came-kept old e count old.phase session s preamble text budget keeps))

    keeps-was : (frozen : Map BoxNode) → IsReady frozen old → IsReadyIn frozen phase.Keeps old.run
    keeps-was frozen ready = subst (λ (x : Phase). IsReadyIn frozen x old.run) was ready

    outermost-same : IsOutermost old.run.scene.environment → IsOutermost e
    outermost-same = subst (λ (x : Saves BoxNode). groups x ≡ []) (sym saves)

    pub keeps-ready : (frozen : Map BoxNode) (count : ℕ) → (IsPresent frozen old.run.scene.environment → IsPresent frozen e) → IsReady frozen old → IsReady frozen (engine_with old e count old.phase)
    keeps-ready frozen count present ready =
        let h = keeps-was frozen ready in
        subst (λ (x : Phase). IsReadyIn frozen x (engine_with old e count old.phase).run) (sym was) (present h.0, outermost-same h.1, empty-same count old.phase h.2)

    pub keeps-less : (count : ℕ) → length e.table.journal < length old.run.scene.environment.table.journal → left_behind (engine_with old e count old.phase) < left_behind old
    keeps-less count fewer = omega (arith, fewer, saved-same saves)

    -- and all is kept
    pub keeps-last : KeepsNow old.run.scene.environment.table e.table → SameCounts (held old.run.scene.environment) (held e) → Backs (back.Rests end.Done) old (engine_with old e old.references phase.Idle)
    keeps-last keeps same =
        let new = engine_with old e old.references phase.Idle in (
          refl,
          (λ session. serves-went session old new (falls-out None old.references phase.Idle None keeps-still tt saves same refl (omega arith))),
          (λ session s preamble text budget serves h. came-kept old e old.references phase.Idle session s preamble text budget keeps (subst (λ (x : Phase). StandsIn x session old s preamble text budget) was h)),
        )

    pub keeps-ready-last : (frozen : Map BoxNode) → (IsPresent frozen old.run.scene.environment → IsPresent frozen e) → e.table.journal ≡ [] → IsReady frozen old → IsReady frozen (engine_with old e old.references phase.Idle)
    keeps-ready-last frozen present journal ready =
        let h = keeps-was frozen ready in
        (present h.0, outermost-same h.1, journal, empty-same old.references phase.Idle h.2)

  -- What was set is undone.
  module _ (ended : End) (was : old.phase ≡ phase.Undoes ended) (saves : e.saves ≡ old.run.scene.environment.saves) where
    undoes-still : IsStill old.phase
    undoes-still = subst IsStill (sym was) tt

    pub undoes-was : (frozen : Map BoxNode) → IsReady frozen old → IsReadyIn frozen (phase.Undoes ended) old.run
    undoes-was frozen ready = subst (λ (x : Phase). IsReadyIn frozen x old.run) was ready

    pub undoes-one : SameNow → SameBefore → IsUndone ended → (m : Meaning BoxNode) (fallen : Option ℕ) (count : ℕ) (result : Back) (new : Engine) → KeepsBefore old.run.scene.environment.table e.table → SameCounts (held old.run.scene.environment) (option_to_list (Some m) ++ held e) → fallen ≡ pooled_of m → new ≡ engine_with old e count old.phase → count ≡ old.references - number_in fallen → result ≡ releasing fallen → Backs result old new
    undoes-one now_same before_same undone m fallen count result new keeps same fallen_is new_is count_is result_is =
        backs-as now_same before_same fallen result old (engine_with old e count old.phase) new result_is new_is (subst IsEnding (sym was) tt) (falls-out (Some m) count old.phase fallen undoes-still undoes-still saves same fallen_is count_is)
        (goes-in old (engine_with old e count old.phase) (phase.Undoes ended) (phase.Undoes ended) was was (λ session s preamble text budget. ended-kept old e count old.phase session s preamble text budget ended undone keeps))

    pub undoes-ready : (frozen : Map BoxNode) (count : ℕ) → (IsFirst frozen old.run.scene.environment → IsFirst frozen e) → IsReady frozen old → IsReady frozen (engine_with old e count old.phase)
    undoes-ready frozen count first ready =
        let h = undoes-was frozen ready in
        subst (λ (x : Phase). IsReadyIn frozen x (engine_with old e count old.phase).run) (sym was) (h.0, first h.1, empty-same count old.phase h.2)

    pub undoes-less : (count : ℕ) → length e.table.journal < length old.run.scene.environment.table.journal → left_behind (engine_with old e count old.phase) < left_behind old
    undoes-less count fewer = omega (arith, fewer, saved-same saves)

    -- and the groups are left
    pub undoes-last : SameNow → SameBefore → IsUndone ended → KeepsBefore old.run.scene.environment.table e.table → SameCounts (held old.run.scene.environment) (held e) → Backs back.Went old (engine_with old e old.references (phase.Abandons ended))
    undoes-last now_same before_same undone keeps same =
        let p = phase.Abandons ended in
        let new = engine_with old e old.references p in
        backs now_same before_same None old new tt (falls-out None old.references p None undoes-still tt saves same refl (omega arith))
        (goes-in old new (phase.Undoes ended) p was refl (λ session s preamble text budget. ended-kept old e old.references p session s preamble text budget ended undone keeps))

    pub undoes-ready-last : (frozen : Map BoxNode) → (IsFirst frozen old.run.scene.environment → IsFirst frozen e) → e.table.journal ≡ [] → IsReady frozen old → IsReady frozen (engine_with old e old.references (phase.Abandons ended))
    undoes-ready-last frozen first journal ready =
        let h = undoes-was frozen ready in
        (h.0, first h.1, journal, empty-same old.references (phase.Abandons ended) h.2)

    pub undoes-less-last : e.table.journal ≡ [] → left_behind (engine_with old e old.references (phase.Abandons ended)) < left_behind old
    undoes-less-last journal =
        let rank_is : rank old.phase ≡ 2 = ap rank was in
        let none : length e.table.journal ≡ 0 = ap length journal in
        omega (arith, rank_is, none, saved-same saves)

  -- Groups are given up.
  module _ (ended : End) (was : old.phase ≡ phase.Abandons ended) where
    abandons-still : IsStill old.phase
    abandons-still = subst IsStill (sym was) tt

    pub abandons-was : (frozen : Map BoxNode) → IsReady frozen old → IsReadyIn frozen (phase.Abandons ended) old.run
    abandons-was frozen ready = subst (λ (x : Phase). IsReadyIn frozen x old.run) was ready

    pub abandons-one : SameNow → SameBefore → IsUndone ended → (step : Closed BoxNode) (fallen : Option ℕ) (count : ℕ) (result : Back) (new : Engine) → KeepsBefore old.run.scene.environment.table e.table → Abandons old.run.scene.environment.saves step e.saves → SameCounts (held old.run.scene.environment) (dropped step ++ held e) → ((id : ℕ) → counts_as id fallen ≡ ending id step) → new ≡ engine_with old e count old.phase → count ≡ old.references - number_in fallen → result ≡ releasing fallen → Backs result old new
    abandons-one now_same before_same undone step fallen count result new keeps gives same counts_is new_is count_is result_is =
        backs-as now_same before_same fallen result old (engine_with old e count old.phase) new result_is new_is (subst IsEnding (sym was) tt)
        (falls-by old e count old.phase (dropped step) fallen abandons-still abandons-still same (λ id. sym (counts_is id)) (λ names. groups-known names old.run.scene.environment.saves e.saves step gives) count_is)
        (goes-in old (engine_with old e count old.phase) (phase.Abandons ended) (phase.Abandons ended) was was (λ session s preamble text budget. ended-kept old e count old.phase session s preamble text budget ended undone keeps))

    pub abandons-ready : (frozen : Map BoxNode) (count : ℕ) → (IsFirst frozen old.run.scene.environment → IsFirst frozen e) → e.table ≡ old.run.scene.environment.table → IsReady frozen old → IsReady frozen (engine_with old e count old.phase)
    abandons-ready frozen count first table ready =
        let h = abandons-was frozen ready in
        let journal = ap (λ (t : Table BoxNode). t.journal) table ∙ h.2 in
        subst (λ (x : Phase). IsReadyIn frozen x (engine_with old e count old.phase).run) (sym was) (h.0, first h.1, journal, empty-same count old.phase h.3)

    pub abandons-less : (count : ℕ) → e.table ≡ old.run.scene.environment.table → entries_saved old.run.scene.environment ≡ entries_saved e + 1 → left_behind (engine_with old e count old.phase) < left_behind old
    abandons-less count table fewer =
        let same : length e.table.journal ≡ length old.run.scene.environment.table.journal = ap (λ (t : Table BoxNode). length t.journal) table in
        omega (arith, fewer, same)

-- where the journal is used up, the map before the region is the one now
now-before : (frozen : Map BoxNode) (t u : Table BoxNode) (q : Addr) → t.journal ≡ [] → u ≡ t → now frozen u q ≡ before frozen t q
now-before frozen t u q none same = ap (λ (x : Table BoxNode). now frozen x q) same ∙ ap (λ (j : List (Addr × Before BoxNode)). option_map_or (said (frozen q)) (entry_at j q) (now frozen t q)) (sym none)

-- The state is the one from before the region, and the session has the names that it had then.
abbrev names_before : Engine → Input
names_before e = record e.run.scene.input { names = drop (length e.run.scene.input.names - e.names) e.run.scene.input.names }

abbrev pub given_back : Engine → environments.State → Engine
given_back old e = record old { run = record old.run { scene = record old.run.scene { environment = e; input = names_before old } }; phase = phase.Idle }

module _ (old : Engine) (e : environments.State) (ended : End) (was : old.phase ≡ phase.Abandons ended) (table : e.table ≡ old.run.scene.environment.table) (saves : e.saves ≡ old.run.scene.environment.saves) (stack : old.run.scene.environment.saves.stack ≡ []) where
  no-groups : (x : Saves BoxNode) → x.stack ≡ [] → groups x ≡ []
  no-groups x none = ap (groups_of x.group) none

  outermost : IsOutermost e
  outermost = no-groups e.saves (ap (λ (x : Saves BoxNode). x.stack) saves ∙ stack)

  pub rests-ready : (frozen : Map BoxNode) → (IsFirst frozen old.run.scene.environment → IsPresent frozen e) → IsReady frozen old → IsReady frozen (given_back old e)
  rests-ready frozen present ready =
      let h = abandons-was old e ended was frozen ready in
      (present h.1, outermost, ap (λ (t : Table BoxNode). t.journal) table ∙ h.2, record { fallen = h.3.fallen; doing = h.3.doing })

  falls-none : ((names : ℕ → Bool) → KnowsInput names old.run.scene.input → KnowsInput names (names_before old)) → ((formats : List (List ℕ)) (view : View) → IsOf formats view old.run.scene.input → IsOf formats view (names_before old)) → Falls None old (given_back old e)
  falls-none knows views = record {
    was = subst IsStill (sym was) tt;
    is = tt;
    held = λ id.
        let same : counted id (held e) ≡ counted id (held old.run.scene.environment) = λ i. counted id (all_held (table i) (saves i)) in
        omega (arith, same);
    references = omega arith;
    knows = λ names scene. record { input = knows names scene.input; kept = scene.kept; groups = subst (λ (x : Saves BoxNode). KnowsGroups names (groups x)) (sym saves) scene.groups };
    ground = λ g is. record { view = is.view; formats = views g.formats g.view is.formats };
  }

  module _ (journal : old.run.scene.environment.table.journal ≡ []) (session : Session) (s : State) where
    rests-in : LeadsBack session old s → Rests session (given_back old e) s
    rests-in back g agrees =
        let same : state_in g (frozen_of session) (given_back old e).run.scene ≡ state_before g (frozen_of session) old.names old.run.scene =
        λ i. record {
          map = map_in g.view (λ q. now-before (frozen_of session) old.run.scene.environment.table e.table q journal table i);
          frozen = λ text. list_any (bytes_eq text) g.formats;
          names = texts_of g.view.naming (drop (length old.run.scene.input.names - old.names) old.run.scene.input.names);
        } in
        same ∙ back g agrees

    answered : (preamble : Bool) (text : List ℕ) (budget : ℕ) (z : End) → IsUndone z → HasEnded session old z s preamble text budget → Answered session (given_back old e) z s preamble text budget
    answered preamble text budget end.Done undone h = absurd undone
    answered preamble text budget end.Failed undone h = (h.0, rests-in h.1)
    answered preamble text budget end.Spent undone h = (h.0, rests-in h.1)
    answered preamble text budget end.Memory undone h = rests-in h

  pub rests-back : IsUndone ended → old.run.scene.environment.table.journal ≡ [] → ((names : ℕ → Bool) → KnowsInput names old.run.scene.input → KnowsInput names (names_before old)) → ((formats : List (List ℕ)) (view : View) → IsOf formats view old.run.scene.input → IsOf formats view (names_before old)) → Backs (back.Rests ended) old (given_back old e)
  rests-back undone journal knows views = (
    refl,
    (λ session. serves-went session old (given_back old e) (falls-none knows views)),
    (λ session s preamble text budget serves h. answered journal session s preamble text budget ended undone (subst (λ (x : Phase). StandsIn x session old s preamble text budget) was h)),
  )
