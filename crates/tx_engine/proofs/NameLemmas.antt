-- What an engine is told of the name that was taken.
use Rattle.std.proofs.Common.{◌≡◌, ◌≢◌, ℕ, ◌<◌, ◌==◌, Bool, true, nat_lt, List, [], ◌∷◌, length, Option, Some, None, IfSome, is_some, get_or, inl, inr, ◌⊎◌, arith, refl, sym, ap, ◌∙◌, ltb-true, eqb-true}
use Rattle.std.proofs.lemmas.Bool.{false≢true, or_cases}
use Rattle.std.specs.List.{AllByRecursion}
use Rattle.tx_input.specs.Owned.{Own, has_number}
use Rattle.tx_input.specs.Worlds.{has_name, IsUnnamed, wanted_text}
use Rattle.tx_input.specs.Takings as takings
use Rattle.tx_store.specs.Sessions.{Session}
use Rattle.tx_store.specs.Steps.{AfterFind, AfterIntern}
use Rattle.tx_scene.specs.Scenes.{Ground, IsGround}
use Rattle.tx_run.specs.Runs.{Answers}
use Rattle.tx_run.specs.Knowledge.{held_by, KnowsRun}
use Rattle.tx_engine.specs.declared.engine.Engine.{Engine}
use Rattle.tx_engine.specs.Agreement.{Agrees, known_names}
use Rattle.tx_engine.specs.Standing.{Serves}
use Rattle.tx_engine.proofs.AgreementLemmas.{agrees-earlier, knows-more, same-knows, same-holds, interned-knows}
use Rattle.tx_engine.proofs.AnswerLemmas.{GoesOn, same-goes, row-kept, total-kept, lists-kept}

-- the number of one of the session's own names is known
own-known : (names : ℕ → Bool) (own : Own) (n : ℕ) → AllByRecursion (λ (o : ℕ × ℕ). names o.0 ≡ true) own → has_number n own ≡ true → names n ≡ true
own-known names [] n known has = absurd (false≢true has)
own-known names (o ∷ own) n known has = either (or_cases (n == o.0) (has_number n own) has) (own-known names own n known.1)
  where
    either : ((n == o.0) ≡ true) ⊎ (has_number n own ≡ true) → (has_number n own ≡ true → names n ≡ true) → names n ≡ true
    either (inl same) others = ap names (eqb-true n o.0 same) ∙ known.0
    either (inr other) others = others other

text-known : (o : Option (List ℕ)) → is_some o ≡ true → (text : List ℕ) × (o ≡ Some text)
text-known None known = absurd (false≢true known)
text-known (Some text) known = (text, refl)

module _ (old new : Engine) (earlier later : Session) (serves : Serves earlier old) (knows : KnowsRun (known_names earlier) old.run) where
  -- the session knows each name of the input
  name-known : (g : Ground) → Agrees earlier g → IsGround g old.run.scene → (n : ℕ) → has_name n old.run.scene.input ≡ true → (text : List ℕ) × (earlier.names n ≡ Some text)
  name-known g agrees ground n has = by (or_cases (nat_lt n old.run.scene.input.format_names) (has_number n old.run.scene.input.names) has)
    where
      by : (nat_lt n old.run.scene.input.format_names ≡ true) ⊎ (has_number n old.run.scene.input.names ≡ true) → (text : List ℕ) × (earlier.names n ≡ Some text)
      by (inl below) =
          let lt : n < length earlier.format.names = omega (arith, ltb-true n old.run.scene.input.format_names below, ground.formats.format.number, ap (λ (xs : List (List ℕ)). length xs) agrees.formats) in
          (get_or earlier.format.names n [], serves.sound.of_format n lt)
      by (inr own) = text-known (earlier.names n) (own-known (known_names earlier) old.run.scene.input.names n knows.scene.input.names own)

  -- no name has a text that the session doesn't know
  unnamed : (g : Ground) → Agrees earlier g → IsGround g old.run.scene → (text : List ℕ) → ((n : ℕ) → earlier.names n ≢ Some text) → IsUnnamed g.view old.run.scene.input text
  unnamed g agrees ground text apart n has e =
      let there = name-known g agrees ground n has in
      apart n (there.1 ∙ ap Some (sym (agrees.names n there.0 there.1) ∙ e))

  module _ (more : (names more : ℕ → Bool) → ((n : ℕ) → names n ≡ true → more n ≡ true) → KnowsRun names old.run → KnowsRun more old.run)
      (holds : (id : ℕ) → held_by id new.run ≡ held_by id old.run) (references : new.references ≡ old.references) where
    -- the name has this number
    pub interned-goes : (number : ℕ) → AfterIntern earlier (wanted_text old.run.scene.input) number later
        → ((names : ℕ → Bool) → names number ≡ true → KnowsRun names old.run → KnowsRun names new.run)
        → ((g : Ground) → Agrees later g → IsGround g old.run.scene → g.view.naming number ≡ wanted_text old.run.scene.input → Answers g old.run new.run × IsGround g new.run.scene)
        → GoesOn old new earlier later
    interned-goes number after known answers =
        let on = interned-knows earlier later (wanted_text old.run.scene.input) number after in
        record {
          knows_on = on;
          holds_on = same-holds after.row;
          row = row-kept old new earlier later after.row serves holds;
          total = total-kept old new earlier later after.row serves references;
          lists = lists-kept old new earlier later after.row serves on;
          knows = known (known_names later) (ap (λ (o : Option (List ℕ)). is_some o) after.now) (more (known_names earlier) (known_names later) (knows-more on) knows);
          answers = λ g agrees ground. answers g agrees ground (agrees.names number (wanted_text old.run.scene.input) after.now);
        }

    -- the name has a number, or none
    pub found-goes : (number : Option ℕ) → AfterFind earlier (wanted_text old.run.scene.input) number later
        → ((names : ℕ → Bool) → IfSome number (λ n. names n ≡ true) → KnowsRun names old.run → KnowsRun names new.run)
        → ((g : Ground) → IsGround g old.run.scene → takings.Agrees number g.view old.run.scene.input → Answers g old.run new.run × IsGround g new.run.scene)
        → GoesOn old new earlier later
    found-goes (Some number) after known answers =
        interned-goes number after known (λ g agrees ground named. answers g ground (agrees.view, named))
    found-goes None after known answers =
        let on = same-knows after.1.0 in
        same-goes old new earlier later after.1 serves holds references
        (known (known_names later) tt (more (known_names earlier) (known_names later) (knows-more on) knows))
        (λ g agrees ground. answers g ground (unnamed g (agrees-earlier g on (same-holds after.1.1) agrees) ground (wanted_text old.run.scene.input) after.0))
