-- What an answer keeps of what an engine stands for.
use Rattle.std.proofs.Common.{◌≡◌, ℕ, ◌≤◌, Bool, List, length, Some, arith, sym, ap, subst, ◌∙◌}
use Rattle.std.specs.List.{list_any}
use Rattle.std.specs.Str.{bytes_eq}
use Rattle.tx_node.specs.declared.BoxNode.{BoxNode}
use Rattle.tx_eqtb.specs.Meanings.{Map, meanings}
use Rattle.tx_eqtb.specs.Tables.{before}
use Rattle.tx_format.specs.declared.state.Engineless.{Engineless}
use Rattle.tx_private.specs.Region.{State}
use Rattle.tx_views.specs.Meanings.{map_in}
use Rattle.tx_input.specs.Owned.{texts_of}
use Rattle.tx_input.specs.Worlds.{AllKnown}
use Rattle.tx_store.specs.Sessions.{Session, Holding}
use Rattle.tx_store.specs.Steps.{Same, SameRow, count_of}
use Rattle.tx_scene.specs.Scenes.{Ground, IsGround}
use Rattle.tx_run.specs.Runs.{Means, Answers, AnswerKeeps}
use Rattle.tx_run.specs.Knowledge.{held_by, KnowsRun}
use Rattle.tx_engine.specs.declared.engine.Engine.{Engine}
use Rattle.tx_engine.specs.declared.engine.Phase.TheVariants as phase
use Rattle.tx_engine.specs.Agreement.{Agrees, known_names}
use Rattle.tx_engine.specs.Standing.{frozen_of, IsReady, IsReadyIn, KnowsIn, Serves, Stands, StandsIn, Runs, state_before}
use Rattle.tx_engine.specs.Steps.{Carries}
use Rattle.tx_engine.proofs.AgreementLemmas.{KnowsOn, HoldsOn, agrees-earlier, knows-more, more-tokens, knows-format, same-knows, same-holds, drop-grown}

module _ (old new : Engine) (runs : old.phase ≡ phase.Runs) (same : new.phase ≡ old.phase) where
  -- what is so of the run while a region goes on
  pub knows-run : (session : Session) → Serves session old → KnowsRun (known_names session) old.run
  knows-run session serves = subst (λ p. KnowsIn (known_names session) p old.run) runs serves.knows

  pub knows-in : (session : Session) → KnowsRun (known_names session) new.run → KnowsIn (known_names session) new.phase new.run
  knows-in session knows = subst (λ p. KnowsIn (known_names session) p new.run) (sym (same ∙ runs)) knows

  pub runs-on : (session : Session) (s : State) (preamble : Bool) (text : List ℕ) (budget : ℕ) → Stands session old s preamble text budget → Runs session old s preamble text budget
  runs-on session s preamble text budget stands = subst (λ p. StandsIn p session old s preamble text budget) runs stands

  pub stands-in : (session : Session) (s : State) (preamble : Bool) (text : List ℕ) (budget : ℕ) → Runs session new s preamble text budget → Stands session new s preamble text budget
  stands-in session s preamble text budget goes = subst (λ p. StandsIn p session new s preamble text budget) (sym (same ∙ runs)) goes

pub ready-run : (e : Engine) → e.phase ≡ phase.Runs → (frozen : Map BoxNode) → IsReady frozen e → IsReadyIn frozen phase.Runs e.run
ready-run e runs frozen ready = subst (λ p. IsReadyIn frozen p e.run) runs ready

module _ (old new : Engine) (keeps : AnswerKeeps old.run new.run) (own : new.names ≡ old.names) where
  -- the state from before the region stays the same
  pub state-kept : (g : Ground) (frozen : Map BoxNode) → old.names ≤ length old.run.scene.input.names → state_before g frozen new.names new.run.scene ≡ state_before g frozen old.names old.run.scene
  state-kept g frozen le =
      let names = drop-grown old.names old.run.scene.input.names new.run.scene.input.names le keeps.names in
      ap (λ n. state_before g frozen n new.run.scene) own
      ∙ (λ i. record {
        map = map_in g.view (before frozen (keeps.environment i).table);
        frozen = λ text. list_any (bytes_eq text) g.formats;
        names = texts_of g.view.naming (names i);
      })

  pub names-kept : old.names ≤ length old.run.scene.input.names → new.names ≤ length new.run.scene.input.names
  names-kept le = omega (arith, le, own, keeps.names.0)

-- What an operation that takes nothing from what a session knows and holds owes to an engine.
pub record GoesOn (old new : Engine) (earlier later : Session) : Type 0 where
  pub knows_on : KnowsOn earlier later
  pub holds_on : HoldsOn earlier later
  pub row : (id : ℕ) → count_of (later.row id) ≡ held_by id new.run
  pub total : later.total ≡ new.references
  pub lists : (id : ℕ) (h : Holding) → later.row id ≡ Some h → AllKnown (known_names later) h.content
  pub knows : KnowsRun (known_names later) new.run
  pub answers : (g : Ground) → Agrees later g → IsGround g old.run.scene → Answers g old.run new.run × IsGround g new.run.scene

pub carries-on : (After : Session → Session → Type 0) (old new : Engine) → old.phase ≡ phase.Runs → new.phase ≡ old.phase → AnswerKeeps old.run new.run → new.names ≡ old.names
    → ((earlier later : Session) → After earlier later → Serves earlier old → KnowsRun (known_names earlier) old.run → GoesOn old new earlier later)
    → Carries After old new
carries-on After old new runs same keeps own goes = record {
  serves = λ earlier later after sound serves.
      let on = goes earlier later after serves (knows-run old new runs same earlier serves) in
      record {
        sound = sound;
        format = knows-format on.knows_on serves.format;
        row = on.row;
        total = on.total;
        lists = on.lists;
        knows = knows-in old new runs same later on.knows;
        ground = λ g agrees. (on.answers g agrees (serves.ground g (agrees-earlier g on.knows_on on.holds_on agrees))).1;
      };
  stands = λ earlier later after sound serves s preamble text budget stands.
      let on = goes earlier later after serves (knows-run old new runs same earlier serves) in
      let was = runs-on old new runs same earlier s preamble text budget stands in
      stands-in old new runs same later s preamble text budget (record {
        means = λ g agrees r means.
            let before_it = agrees-earlier g on.knows_on on.holds_on agrees in
            was.means g before_it r (subst (λ (f : Engineless). Means g (meanings f.frozen) old.run r) on.knows_on.format ((on.answers g agrees (serves.ground g before_it)).0 (frozen_of later) r means));
        names = names-kept old new keeps own was.names;
        back = λ g agrees.
            state-kept old new keeps own g (frozen_of later) was.names
            ∙ ap (λ (f : Engineless). state_before g (meanings f.frozen) old.names old.run.scene) on.knows_on.format
            ∙ was.back g (agrees-earlier g on.knows_on on.holds_on agrees);
      });
}

module _ (old new : Engine) (earlier later : Session) (row : SameRow earlier later) (serves : Serves earlier old) where
  -- where the row is the same
  pub row-kept : ((id : ℕ) → held_by id new.run ≡ held_by id old.run) → (id : ℕ) → count_of (later.row id) ≡ held_by id new.run
  row-kept holds id = ap count_of (row.row id) ∙ serves.row id ∙ sym (holds id)

  pub total-kept : new.references ≡ old.references → later.total ≡ new.references
  total-kept references = row.total ∙ serves.total ∙ sym references

  pub lists-kept : KnowsOn earlier later → (id : ℕ) (h : Holding) → later.row id ≡ Some h → AllKnown (known_names later) h.content
  lists-kept knows id h e = more-tokens (known_names earlier) (known_names later) (knows-more knows) h.content (serves.lists id h (sym (row.row id) ∙ e))

-- all is the same
pub same-goes : (old new : Engine) (earlier later : Session) → Same earlier later → Serves earlier old
    → ((id : ℕ) → held_by id new.run ≡ held_by id old.run) → new.references ≡ old.references → KnowsRun (known_names later) new.run
    → ((g : Ground) → Agrees later g → IsGround g old.run.scene → Answers g old.run new.run × IsGround g new.run.scene)
    → GoesOn old new earlier later
same-goes old new earlier later same serves holds references knows answers = record {
  knows_on = same-knows same.0;
  holds_on = same-holds same.1;
  row = row-kept old new earlier later same.1 serves holds;
  total = total-kept old new earlier later same.1 serves references;
  lists = lists-kept old new earlier later same.1 serves (same-knows same.0);
  knows = knows;
  answers = answers;
}
