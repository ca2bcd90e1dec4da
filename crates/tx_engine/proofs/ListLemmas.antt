-- What an engine is told of a list: it is shared, held once more, or released.
use Rattle.std.proofs.Common.{◌≡◌, ℕ, ◌+◌, ◌-◌, ◌<◌, ◌≤◌, Bool, true, List, [], length, drop, Option, Some, arith, sym, ap, subst, ◌∙◌}
use Rattle.std.specs.List.{list_any}
use Rattle.std.specs.Str.{bytes_eq}
use Rattle.std.proofs.lemmas.Option.{slice_get_within, get_or_from_slice_get}
use Rattle.tx_tok.specs.declared.tok.Tok.{Tok}
use Rattle.tx_tok.specs.declared.tok.ListRef.{ListRef}
use Rattle.tx_tok.specs.declared.tok.ListRef.TheVariants as list
use Rattle.tx_node.specs.declared.BoxNode.{BoxNode}
use Rattle.tx_eqtb.specs.Meanings.{Map, meanings}
use Rattle.tx_eqtb.specs.Tables.{before}
use Rattle.tx_format.specs.declared.state.Engineless.{Engineless}
use Rattle.tx_private.specs.Reads.{Result}
use Rattle.tx_private.specs.Region.{State}
use Rattle.tx_views.specs.Meanings.{map_in}
use Rattle.tx_environment.specs.Holding.{pooled_in, HasNoPooled}
use Rattle.tx_input.specs.Owned.{texts_of}
use Rattle.tx_input.specs.Worlds.{AllKnown}
use Rattle.tx_store.specs.Sessions as sessions
use Rattle.tx_store.specs.Sessions.{Session, Holding}
use Rattle.tx_store.specs.Steps.{AfterShare, AfterTake, AfterRelease, count_of, content_of}
use Rattle.tx_scene.specs.declared.scene.Scene.{Scene}
use Rattle.tx_scene.specs.Scenes.{Ground, IsGround}
use Rattle.tx_run.specs.declared.run.Run.{Run}
use Rattle.tx_run.specs.declared.op.Op.TheVariants as op
use Rattle.tx_run.specs.Runs.{Means, Answers, AnswerKeeps, shared_tokens}
use Rattle.tx_run.specs.Knowledge.{counts_as, held_by, known_in, KnowsFormat, KnowsRun}
use Rattle.tx_contents.specs.Contents.{SameGround, IsHeldIn, IsHeldBy}
use Rattle.tx_engine.specs.declared.engine.Engine.{Engine}
use Rattle.tx_engine.specs.declared.engine.Phase.TheVariants as phase
use Rattle.tx_engine.specs.Agreement.{Agrees, known_names}
use Rattle.tx_engine.specs.Standing.{frozen_of, Serves, Stands, state_before}
use Rattle.tx_engine.specs.Steps.{due, number_in, Carries}
use Rattle.tx_engine.proofs.AgreementLemmas.{KnowsOn, agrees-earlier, knows-more, more-tokens, knows-format, same-knows, same-holds, held-some, counts-same, row-more, row-less, known-lists, known-content, holds-more, ground_with, ground-without, agrees-released, same-released}
use Rattle.tx_engine.proofs.AskedLemmas.{shared-known, released-fallen}
use Rattle.tx_engine.proofs.AnswerLemmas.{knows-run, knows-in, runs-on, stands-in, state-kept, names-kept, GoesOn, same-goes}

module _ (old new : Engine) (earlier later : Session) (serves : Serves earlier old) (knows : KnowsRun (known_names earlier) old.run)
    (more : (names more : ℕ → Bool) → ((n : ℕ) → names n ≡ true → more n ≡ true) → KnowsRun names old.run → KnowsRun more old.run)
    (known : (names : ℕ → Bool) → KnowsRun names old.run → KnowsRun names new.run) where
  -- the list is held from now on, if it is one of the pool
  pub shared-goes : (reference : ListRef) (tokens : List Tok) → shared_tokens old.run.doing ≡ Some tokens → AfterShare earlier tokens reference later
      → ((id : ℕ) → held_by id new.run ≡ held_by id old.run + counts_as id (pooled_in reference))
      → new.references ≡ old.references + number_in (pooled_in reference)
      → ((g : Ground) → IsGround g old.run.scene → g.view.content reference ≡ tokens → Answers g old.run new.run × IsGround g new.run.scene)
      → GoesOn old new earlier later
  shared-goes list.Empty tokens shares after holds references answers =
      same-goes old new earlier later after.1 serves (λ id. omega (arith, holds id)) (omega (arith, references))
      (known (known_names later) (more (known_names earlier) (known_names later) (knows-more (same-knows after.1.0)) knows))
      (λ g agrees ground. answers g ground (agrees.view.empty ∙ sym after.0))
  shared-goes (list.Frozen k) tokens shares after holds references answers =
      let on = same-knows after.1.0 in
      same-goes old new earlier later after.1 serves (λ id. omega (arith, holds id)) (omega (arith, references))
      (known (known_names later) (more (known_names earlier) (known_names later) (knows-more on) knows))
      (λ g agrees ground.
      answers g ground
      ((agrees-earlier g on (same-holds after.1.1) agrees).lists k (slice_get_within earlier.format.lists k tokens after.0) ∙ get_or_from_slice_get earlier.format.lists k tokens [] after.0))
  shared-goes (list.Pooled id) tokens shares after holds references answers =
      let held = after.3 in
      let on = same-knows held.names in
      let count = count_of (earlier.row id) + 1 in
      let tokens_known = more-tokens (known_names earlier) (known_names later) (knows-more on) tokens (shared-known (known_in (known_names earlier) old.run.scene old.run.doing) old.run.doing tokens shares knows.doing) in
      record {
        knows_on = on;
        holds_on = holds-more earlier later id tokens (earlier.total + 1) held after.2;
        row = λ k. row-more earlier later id tokens (earlier.total + 1) held k ∙ ap (λ n. n + counts_as k (Some id)) (serves.row k) ∙ sym (holds k);
        total = omega (arith, held.total, serves.total, references);
        lists = known-lists earlier later id tokens (known_names later) count (earlier.total + 1) held tokens_known (λ k h e. more-tokens (known_names earlier) (known_names later) (knows-more on) h.content (serves.lists k h e));
        knows = known (known_names later) (more (known_names earlier) (known_names later) (knows-more on) knows);
        answers = λ g agrees ground. answers g ground (agrees.row id (record { content = tokens; count = count }) (held.here ∙ held-some tokens count (omega arith)));
      }

  -- the list is held once more
  pub took-goes : (id : ℕ) → AfterTake earlier id later
      → ((k : ℕ) → held_by k new.run ≡ held_by k old.run + counts_as k (Some id))
      → new.references ≡ old.references + 1
      → ((g : Ground) → IsGround g old.run.scene → Answers g old.run new.run × IsGround g new.run.scene)
      → GoesOn old new earlier later
  took-goes id held holds references answers =
      let on = same-knows held.names in
      let count = count_of (earlier.row id) + 1 in
      let content = content_of (earlier.row id) in
      record {
        knows_on = on;
        holds_on = holds-more earlier later id content (earlier.total + 1) held (λ h e. sym (ap (λ (o : Option Holding). content_of o) e));
        row = λ k. row-more earlier later id content (earlier.total + 1) held k ∙ ap (λ n. n + counts_as k (Some id)) (serves.row k) ∙ sym (holds k);
        total = omega (arith, held.total, serves.total, references);
        lists = known-lists earlier later id content (known_names later) count (earlier.total + 1) held
            (known-content (known_names later) (earlier.row id) (λ h e. more-tokens (known_names earlier) (known_names later) (knows-more on) h.content (serves.lists id h e)))
            (λ k h e. more-tokens (known_names earlier) (known_names later) (knows-more on) h.content (serves.lists k h e));
        knows = known (known_names later) (more (known_names earlier) (known_names later) (knows-more on) knows);
        answers = λ g agrees ground. answers g ground;
      }

-- The list is released: what the engine goes on with doesn't depend on its content, once nothing holds it.
module _ (old new : Engine) (runs : old.phase ≡ phase.Runs) (same : new.phase ≡ old.phase) (keeps : AnswerKeeps old.run new.run) (own : new.names ≡ old.names) (references : new.references ≡ old.references - 1)
    (more : (names more : ℕ → Bool) → ((n : ℕ) → names n ≡ true → more n ≡ true) → KnowsRun names old.run → KnowsRun more old.run)
    (known : (names : ℕ → Bool) → KnowsRun names old.run → KnowsRun names new.run)
    (holds : (k : ℕ) → held_by k new.run + counts_as k old.run.fallen ≡ held_by k old.run)
    (answers : (g : Ground) → IsGround g old.run.scene → Answers g old.run new.run × IsGround g new.run.scene)
    (same_run : (g h : Ground) (names : ℕ → Bool) (frozen : Map BoxNode) (run : Run) (r : Result) → HasNoPooled frozen → KnowsRun names run → SameGround (IsHeldBy run) g h → Means g frozen run r → Means h frozen run r)
    (same_map : (g h : Ground) (frozen : Map BoxNode) (s : Scene) → HasNoPooled frozen → SameGround (IsHeldIn s) g h → map_in g.view (before frozen s.environment.table) ≡ map_in h.view (before frozen s.environment.table)) where
  module _ (id : ℕ) (asks : due old ≡ Some (op.Release id)) (earlier later : Session) (after : AfterRelease earlier id later) (serves : Serves earlier old) where
    on : KnowsOn earlier later
    on = same-knows after.names

    format-known : KnowsFormat (known_names later) later.format
    format-known = knows-format on serves.format

    holds-less : (k : ℕ) → held_by k new.run + counts_as k (Some id) ≡ held_by k old.run
    holds-less k = subst (λ f. held_by k new.run + counts_as k f ≡ held_by k old.run) (released-fallen old.run.fallen old.run.doing id asks) (holds k)

    row-held : (k : ℕ) → count_of (later.row k) ≡ held_by k new.run
    row-held k =
        let some : 0 < count_of (earlier.row id) = omega (arith, serves.row id, holds-less id, counts-same id) in
        omega (arith, row-less earlier later id (content_of (earlier.row id)) (earlier.total - 1) some after k, serves.row k, holds-less k)

    run-known : KnowsRun (known_names later) new.run
    run-known = known (known_names later) (more (known_names earlier) (known_names later) (knows-more on) (knows-run old new runs same earlier serves))

    lists-known : (k : ℕ) (h : Holding) → earlier.row k ≡ Some h → AllKnown (known_names later) h.content
    lists-known k h e = more-tokens (known_names earlier) (known_names later) (knows-more on) h.content (serves.lists k h e)

    -- the reading from before
    abbrev was : Ground → Ground
    was g = ground_with g id (content_of (earlier.row id))

    agrees-was : (g : Ground) → Agrees later g → Agrees earlier (was g)
    agrees-was g agrees = agrees-released earlier later id after g agrees

    pub released-serves : sessions.IsSound later → Serves later new
    released-serves sound = record {
      sound = sound;
      format = format-known;
      row = row-held;
      total = omega (arith, after.total, serves.total, references);
      lists = known-lists earlier later id (content_of (earlier.row id)) (known_names later) (count_of (earlier.row id) - 1) (earlier.total - 1) after (known-content (known_names later) (earlier.row id) (lists-known id)) lists-known;
      knows = knows-in old new runs same later run-known;
      ground = λ g agrees. ground-without g id (content_of (earlier.row id)) new.run.scene (answers (was g) (serves.ground (was g) (agrees-was g agrees))).1;
    }

    means-was : (g : Ground) → Agrees later g → (r : Result) → Means g (frozen_of later) new.run r → Means (was g) (frozen_of earlier) old.run r
    means-was g agrees r means =
        let among : (k : ℕ) → IsHeldBy new.run k → 0 < count_of (later.row k) = λ k held. omega (arith, held, row-held k) in
        let here : Means (was g) (frozen_of later) new.run r = same_run g (was g) (known_names later) (frozen_of later) new.run r format-known.none run-known (same-released earlier later id after g agrees (IsHeldBy new.run) among) means in
        subst (λ (f : Engineless). Means (was g) (meanings f.frozen) old.run r) on.format ((answers (was g) (serves.ground (was g) (agrees-was g agrees))).0 (frozen_of later) r here)

    state-was : (g : Ground) → Agrees later g → old.names ≤ length old.run.scene.input.names → state_before g (frozen_of later) new.names new.run.scene ≡ state_before (was g) (frozen_of earlier) old.names old.run.scene
    state-was g agrees le =
        let among : (k : ℕ) → IsHeldIn new.run.scene k → 0 < count_of (later.row k) = λ k held. omega (arith, held, row-held k) in
        let map = same_map g (was g) (frozen_of later) new.run.scene format-known.none (same-released earlier later id after g agrees (IsHeldIn new.run.scene) among) in
        let there : state_before g (frozen_of later) new.names new.run.scene ≡ state_before (was g) (frozen_of later) new.names new.run.scene =
        λ i. record {
          map = map i;
          frozen = λ text. list_any (bytes_eq text) g.formats;
          names = texts_of g.view.naming (drop (length new.run.scene.input.names - new.names) new.run.scene.input.names);
        } in
        there ∙ state-kept old new keeps own (was g) (frozen_of later) le ∙ ap (λ (f : Engineless). state_before (was g) (meanings f.frozen) old.names old.run.scene) on.format

    pub released-stands : (s : State) (preamble : Bool) (text : List ℕ) (budget : ℕ) → Stands earlier old s preamble text budget → Stands later new s preamble text budget
    released-stands s preamble text budget stands =
        let goes = runs-on old new runs same earlier s preamble text budget stands in
        stands-in old new runs same later s preamble text budget (record {
          means = λ g agrees r means. goes.means (was g) (agrees-was g agrees) r (means-was g agrees r means);
          names = names-kept old new keeps own goes.names;
          back = λ g agrees. state-was g agrees goes.names ∙ goes.back (was g) (agrees-was g agrees);
        })

  pub released-carries : Carries (λ earlier later. (id : ℕ) × (due old ≡ Some (op.Release id)) × AfterRelease earlier id later) old new
  released-carries = record {
    serves = λ earlier later after sound serves. released-serves after.0 after.1 earlier later after.2 serves sound;
    stands = λ earlier later after sound serves s preamble text budget stands. released-stands after.0 after.1 earlier later after.2 serves s preamble text budget stands;
  }
