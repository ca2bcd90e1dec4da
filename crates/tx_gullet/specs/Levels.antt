-- The environment that present meanings and saved ones stand for.
use Rattle.std.specs.Prelude.{◌≡◌, ℕ, ◌+◌, Bool, true, false, List, [], ◌∷◌, reverse, Option, Some, None, nat_eq, IsSome, if◌then◌else◌}
use Rattle.std.specs.List.{AllByRecursion}
use Rattle.std.specs.Map.{lookup}
use Rattle.std.specs.Str.{bytes_eq}
use Rattle.indexmap.specs.IndexMap.{insert_entry}
use Rattle.tx_model.specs.Bare.{bare_parameter}
use Rattle.tx_model.specs.Environment.{Map, Environment, Undefined, Category, OfName, OfActive, OfCategory, OfParameter}
use Rattle.tx_model.specs.Environment as environment
use Rattle.tx_names.specs.Names.{Names, Naming}
use Rattle.tx_scan.specs.declared.cats.Cats.{Cats}
use Rattle.tx_scan.specs.Scans.{category_by}
use Rattle.tx_gullet.specs.declared.meaning.Meaning.{Meaning}
use Rattle.tx_gullet.specs.declared.meaning.Meaning.TheVariants as meaning
use Rattle.tx_gullet.specs.declared.equivalents.Save.{Save}
use Rattle.tx_gullet.specs.declared.equivalents.Save.TheVariants as save
use Rattle.tx_gullet.specs.declared.equivalents.Equivalents.{Equivalents}
use Rattle.tx_gullet.specs.Meanings.{meaning_in, KnowsMeaning}

-- meanings of names by their numbers
abbrev pub Cells : Type 0
Cells = List (ℕ × Meaning)

abbrev pub or_undefined : Naming → Option Meaning → environment.Meaning
or_undefined naming None = Undefined
or_undefined naming (Some m) = meaning_in naming m

-- a name means what the cell of its number says
abbrev pub map_of : Naming → Cats → Cells → Map
map_of naming cats cells (OfName text) = or_undefined naming (lookup (λ n. bytes_eq text (naming n)) cells)
map_of naming cats cells (OfActive b) = Undefined
map_of naming cats cells (OfCategory b) = Category (category_by cats b)
map_of naming cats cells (OfParameter p) = bare_parameter p

-- the cells in which this name means this
abbrev pub with_cell : Cells → ℕ → Meaning → Cells
with_cell cells n m = insert_entry nat_eq cells n m

-- the meaning that a cell had
abbrev pub before_of : Option Meaning → Meaning
before_of None = meaning.Undefined
before_of (Some m) = m

-- what the cells say that each number means
abbrev pub meaning_by : Cells → ℕ → Meaning
meaning_by cells n = before_of (lookup (nat_eq n) cells)

-- where this number means this
abbrev pub with_meaning : ℕ → Meaning → (ℕ → Meaning) → ℕ → Meaning
with_meaning n m means k = if nat_eq k n then m else means k

-- what each number means after all that was saved is given back, the latest first
abbrev pub undone : (ℕ → Meaning) → List Save → ℕ → Meaning
undone means [] = means
undone means (save.Group ∷ saves) = undone means saves
undone means (save.Name n m ∷ saves) = undone (with_meaning n m means) saves

-- what each number meant before anything was saved
abbrev pub before : Equivalents → ℕ → Meaning
before e = undone (meaning_by e.names.entries) (reverse e.saves.items)

-- a saved meaning is that of a number with a cell
abbrev pub HasCell : Cells → Save → Type 0
HasCell cells save.Group = Unit {0}
HasCell cells (save.Name n m) = IsSome (lookup (nat_eq n) cells)

-- all that was saved can be given back
abbrev pub HasCells : Equivalents → Type 0
HasCells e = AllByRecursion (HasCell e.names.entries) e.saves.items

-- what was before stays, and can be given back as it could
pub record KeepsBefore (old new : Equivalents) : Type 0 where
  pub cats : new.cats ≡ old.cats
  pub before : before new ≡ before old
  pub has_cells : HasCells old → HasCells new

-- The maps of the levels around the innermost one, from what was saved, the latest first: a group's
-- beginning repeats the map, and a saved meaning is that of the level around.
abbrev pub below : Naming → Cats → Cells → List Save → Environment
below naming cats cells [] = []
below naming cats cells (save.Group ∷ saves) = map_of naming cats cells ∷ below naming cats cells saves
below naming cats cells (save.Name n m ∷ saves) = below naming cats (with_cell cells n m) saves

-- the environment
abbrev pub levels : Naming → Equivalents → Environment
levels naming e = map_of naming e.cats e.names.entries ∷ below naming e.cats e.names.entries (reverse e.saves.items)

-- the number of groups that begin in what was saved
abbrev pub marks : List Save → ℕ
marks [] = 0
marks (save.Group ∷ saves) = marks saves + 1
marks (save.Name n m ∷ saves) = marks saves

abbrev pub KnowsSave : Names → Save → Type 0
KnowsSave names save.Group = Unit {0}
KnowsSave names (save.Name n m) = KnowsMeaning names m

-- the table has all names in the lists of these macros, and what was saved can be given back
pub record KnowsEquivalents (names : Names) (e : Equivalents) : Type 0 where
  pub cells : (n : ℕ) → KnowsMeaning names (meaning_by e.names.entries n)
  pub saves : AllByRecursion (KnowsSave names) e.saves.items
  pub has_cells : HasCells e

-- the environment after a group's end, where one was open
abbrev pub if_ended : Bool → Environment → Option Environment
if_ended true maps = Some maps
if_ended false maps = None
