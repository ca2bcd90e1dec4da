-- The state that a region leaves.
use Rattle.std.proofs.Common.{◌≡◌, ℕ, List, [], ◌∷◌, length, reverse, sym, ◌∙◌, ap, subst}
use Rattle.std.specs.List.{AllByRecursion}
use Rattle.tx_model.specs.Environment.{Map}
use Rattle.tx_model.specs.Moves.{Control}
use Rattle.tx_model.specs.Region.{Outcome as RegionOutcome, Region, started, left_by, outermost}
use Rattle.tx_model.proofs.Fuel.{reads-once}
use Rattle.tx_names.specs.Names.{Names, Naming, KeepsApart, Agrees, NamingOf, Extends, first_texts}
use Rattle.tx_gullet.specs.declared.outcome.Outcome.{Outcome}
use Rattle.tx_gullet.specs.declared.outcome.Outcome.TheVariants as outcome
use Rattle.tx_gullet.specs.declared.equivalents.Equivalents.{Equivalents}
use Rattle.tx_gullet.specs.declared.running.Running.{Running}
use Rattle.tx_gullet.specs.Meanings.{KnowsMeaning}
use Rattle.tx_gullet.specs.Levels.{map_of, below, meaning_by, undone, levels, HasCell, HasCells, KeepsBefore, KnowsSave, KnowsEquivalents}
use Rattle.tx_gullet.specs.Outcomes.{region_outcome, IsUnfinished}
use Rattle.tx_gullet.specs.States.{IsAtRest, StandsFor, GivesBack, Answered}
use Rattle.tx_gullet.specs.Runs.{Begins, ComesTo, IsKnownAfter, GaveBack, AfterEnd, state_of, left_in}
use Rattle.tx_gullet.proofs.UndoLemmas.{map-by-meanings}

-- a region leaves one state
pub leaves-once : (map : Map) (text : List ℕ) (budget : ℕ) (o p : RegionOutcome) (a b : Map) → Region map text budget o a → Region map text budget p b → a ≡ b
leaves-once map text budget o p a b x y =
    sym x.leaves ∙ ap (left_by map) (reads-once Control [] (started map text budget) x.result y.result x.run y.run) ∙ y.leaves

-- nothing is saved
pub levels-unsaved : (naming : Naming) (e : Equivalents) → e.saves.items ≡ [] → levels naming e ≡ map_of naming e.cats e.names.entries ∷ []
levels-unsaved naming e unsaved = ap (λ s. map_of naming e.cats e.names.entries ∷ below naming e.cats e.names.entries (reverse s)) unsaved

pub cells-unsaved : (e : Equivalents) → e.saves.items ≡ [] → HasCells e
cells-unsaved e unsaved = subst (AllByRecursion (HasCell e.names.entries)) (sym unsaved) tt

pub knows-unsaved : (names : Names) (e : Equivalents) → e.saves.items ≡ [] → ((n : ℕ) → KnowsMeaning names (meaning_by e.names.entries n)) → KnowsEquivalents names e
knows-unsaved names e unsaved cells = record {
  cells = cells;
  saves = subst (AllByRecursion (KnowsSave names)) (sym unsaved) tt;
  has_cells = cells-unsaved e unsaved;
}

-- The state before a region, the one in which it ended, and the one that it gives back.
module _ (old ended new : Running) (known : ℕ) (rest : IsAtRest (state_of old)) (kept : KeepsBefore old.scene.equivalents ended.scene.equivalents) (extends : Extends old.scene.names ended.scene.names) (counted : known ≡ length old.scene.names.texts) (back : GaveBack known ended new) where
  names-back : new.scene.names ≡ old.scene.names
  names-back = back.names ∙ ap (λ n. first_texts n ended.scene.names) counted ∙ extends

  meanings-back : meaning_by new.scene.equivalents.names.entries ≡ meaning_by old.scene.equivalents.names.entries
  meanings-back = back.before ∙ kept.before ∙ ap (λ s. undone (meaning_by old.scene.equivalents.names.entries) (reverse s)) rest.unsaved

  cats-back : new.scene.equivalents.cats ≡ old.scene.equivalents.cats
  cats-back = back.cats ∙ kept.cats

  pub rest-back : IsAtRest (state_of new)
  rest-back = record {
    knows = knows-unsaved new.scene.names new.scene.equivalents back.unsaved
        (λ n. subst (λ names. KnowsMeaning names (meaning_by new.scene.equivalents.names.entries n)) (sym names-back)
        (subst (λ means. KnowsMeaning old.scene.names (means n)) (sym meanings-back) (rest.knows.cells n)));
    unsaved = back.unsaved;
  }

  pub gives-back : GivesBack (state_of old) (state_of new)
  gives-back = record {
    names = names-back;
    stands = λ map stands naming apart agrees.
        levels-unsaved naming new.scene.equivalents back.unsaved
        ∙ ap (λ cats. map_of naming cats new.scene.equivalents.names.entries ∷ []) cats-back
        ∙ ap (λ m. m ∷ []) (map-by-meanings naming old.scene.equivalents.cats new.scene.equivalents.names.entries old.scene.equivalents.names.entries apart meanings-back)
        ∙ sym (levels-unsaved naming old.scene.equivalents rest.unsaved)
        ∙ stands naming apart (subst (Agrees naming) names-back agrees);
  }

-- The state before a region, the one in which it ended, and the one that it leaves.
module _ (old begun ended : Running) (text : List ℕ) (budget known : ℕ) (rest : IsAtRest (state_of old)) (same : state_of begun ≡ state_of old) (begins : (naming : Naming) (map : Map) → levels naming old.scene.equivalents ≡ map ∷ [] → Begins naming begun map text budget) (kept : KeepsBefore begun.scene.equivalents ended.scene.equivalents) (extends : Extends begun.scene.names ended.scene.names) (counted : known ≡ length begun.scene.names.texts) where
  rest-begun : IsAtRest (state_of begun)
  rest-begun = subst IsAtRest (sym same) rest

  -- the region that it was, by a naming
  region : (o : Outcome) → ComesTo begun o ended → (map : Map) → StandsFor (state_of old) map → (naming : Naming) → KeepsApart naming → Agrees naming ended.scene.names → Region map text budget (region_outcome o) (left_in o (levels naming ended.scene.equivalents) map)
  region o comes map stands naming apart agrees =
      let ran = comes naming apart agrees in
      ran.1 map text budget (begins naming map (stands naming apart (subst (λ s. Agrees naming s.names) same ran.0)))

  module _ (new : Running) where
    pub gave-back-old : GaveBack known ended new → IsAtRest (state_of new) × GivesBack (state_of old) (state_of new)
    gave-back-old back = (
      rest-back begun ended new known rest-begun kept extends counted back,
      subst (λ s. GivesBack s (state_of new)) same (gives-back begun ended new known rest-begun kept extends counted back),
    )

    pub rest-left : (o : Outcome) → IsKnownAfter o ended → AfterEnd o known ended new → IsAtRest (state_of new)
    rest-left (outcome.Done output) knows after = record {
      knows = after.knows new.scene.names (subst (λ names. KnowsEquivalents names ended.scene.equivalents) (sym after.names) knows);
      unsaved = after.unsaved;
    }
    rest-left (outcome.Fail output) knows after = (gave-back-old after).0
    rest-left (outcome.Spent output) knows after = (gave-back-old after).0

    pub given-back-left : (o : Outcome) → AfterEnd o known ended new → IsUnfinished o → GivesBack (state_of old) (state_of new)
    given-back-left (outcome.Done output) after back = absurd back
    given-back-left (outcome.Fail output) after back = (gave-back-old after).1
    given-back-left (outcome.Spent output) after back = (gave-back-old after).1

    pub answered-left : (o : Outcome) → NamingOf ended.scene.names → ComesTo begun o ended → AfterEnd o known ended new → Answered (state_of old) text budget o (state_of new)
    answered-left (outcome.Done output) n comes after map stands = (
      outermost map (levels n.naming ended.scene.equivalents),
      region (outcome.Done output) comes map stands n.naming n.apart n.agrees,
      λ naming apart agrees.
          after.levels naming apart map
          ∙ ap (λ m. m ∷ []) (leaves-once map text budget _ _ _ _
          (region (outcome.Done output) comes map stands naming apart (subst (Agrees naming) after.names agrees))
          (region (outcome.Done output) comes map stands n.naming n.apart n.agrees)),
    )
    answered-left (outcome.Fail output) n comes after map stands = (
      map,
      region (outcome.Fail output) comes map stands n.naming n.apart n.agrees,
      (gave-back-old after).1.stands map stands,
    )
    answered-left (outcome.Spent output) n comes after map stands = (
      map,
      region (outcome.Spent output) comes map stands n.naming n.apart n.agrees,
      (gave-back-old after).1.stands map stands,
    )
