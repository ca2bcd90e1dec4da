-- The state BARE.
use Rattle.std.proofs.Common.{◌≡◌, ℕ, [], ◌∷◌, reverse, refl, sym, ◌∙◌, ap, subst}
use mathlib.Core.Path.{fun_ext}
use Rattle.std.specs.List.{AllByRecursion}
use lib.Chars.{codes}
use Rattle.tx_model.specs.declared.primitive.Primitive.TheVariants as primitive
use Rattle.tx_model.specs.Bare.{bare_map, bare_category}
use Rattle.tx_model.specs.Environment.{Address, OfName, OfActive, OfCategory, OfParameter, Environment, Category, Primitive', with_name, defining}
use Rattle.tx_names.specs.Names.{Names, Naming}
use Rattle.tx_scan.specs.declared.cats.Cats.{Cats}
use Rattle.tx_scan.specs.Scans.{category_by}
use Rattle.tx_gullet.specs.declared.equivalents.Equivalents.{Equivalents}
use Rattle.tx_gullet.specs.Meanings.{KnowsMeaning}
use Rattle.tx_gullet.specs.Levels.{levels, map_of, below, meaning_by, HasCell, KnowsSave, KnowsEquivalents}

-- the primitives, given to a map in which no name has a meaning
abbrev with_primitives : Environment → Environment
with_primitives maps =
    defining (codes "relax") (Primitive' primitive.Relax) (defining (codes "par") (Primitive' primitive.Par) (defining (codes "def") (Primitive' primitive.Def) (defining (codes "message") (Primitive' primitive.Message) maps)))

bare-primitives : (naming : Naming) (cats : Cats) → ((b : ℕ) → category_by cats b ≡ bare_category b) → with_primitives (map_of naming cats [] ∷ []) ≡ bare_map ∷ []
bare-primitives naming cats bare = ap (λ map. map ∷ []) (fun_ext at-address)
  where
    at-address : (a : Address) → with_name (codes "relax") (Primitive' primitive.Relax) (with_name (codes "par") (Primitive' primitive.Par) (with_name (codes "def") (Primitive' primitive.Def) (with_name (codes "message") (Primitive' primitive.Message) (map_of naming cats [])))) a ≡ bare_map a
    at-address (OfName text) = refl
    at-address (OfActive b) = refl
    at-address (OfCategory b) = ap Category (bare b)
    at-address (OfParameter p) = refl

pub bare-levels : (naming : Naming) (e first second third fourth : Equivalents) (cats : Cats) → ((b : ℕ) → category_by cats b ≡ bare_category b) → e.cats ≡ cats → e.names.entries ≡ [] → e.saves.items ≡ []
    → levels naming first ≡ defining (codes "message") (Primitive' primitive.Message) (levels naming e)
    → levels naming second ≡ defining (codes "def") (Primitive' primitive.Def) (levels naming first)
    → levels naming third ≡ defining (codes "par") (Primitive' primitive.Par) (levels naming second)
    → levels naming fourth ≡ defining (codes "relax") (Primitive' primitive.Relax) (levels naming third)
    → levels naming fourth ≡ bare_map ∷ []
bare-levels naming e first second third fourth cats bare same none unsaved one two three four =
    four
    ∙ ap (defining (codes "relax") (Primitive' primitive.Relax)) (three
    ∙ ap (defining (codes "par") (Primitive' primitive.Par)) (two
    ∙ ap (defining (codes "def") (Primitive' primitive.Def)) (one
    ∙ ap (defining (codes "message") (Primitive' primitive.Message)) (empty))))
    ∙ bare-primitives naming cats bare
  where
    empty : levels naming e ≡ map_of naming cats [] ∷ []
    empty =
        ap (λ s. map_of naming e.cats e.names.entries ∷ below naming e.cats e.names.entries (reverse s)) unsaved
        ∙ ap (λ cells. map_of naming e.cats cells ∷ []) none
        ∙ ap (λ c. map_of naming c [] ∷ []) same

pub none-known : (names : Names) (e : Equivalents) → e.names.entries ≡ [] → e.saves.items ≡ [] → KnowsEquivalents names e
none-known names e none unsaved = record {
  cells = λ n. subst (λ cells. KnowsMeaning names (meaning_by cells n)) (sym none) tt;
  saves = subst (AllByRecursion (KnowsSave names)) (sym unsaved) tt;
  has_cells = subst (AllByRecursion (HasCell e.names.entries)) (sym unsaved) tt;
}
