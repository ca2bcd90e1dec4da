-- The states that formats and sessions have between regions.
use Rattle.std.specs.Prelude.{◌≡◌, ℕ, List, [], ◌∷◌}
use Rattle.tx_model.specs.Environment.{Map}
use Rattle.tx_model.specs.Region.{Region}
use Rattle.tx_names.specs.Names.{Names, Naming, KeepsApart, Agrees}
use Rattle.tx_gullet.specs.declared.equivalents.Equivalents.{Equivalents}
use Rattle.tx_gullet.specs.declared.outcome.Outcome.{Outcome}
use Rattle.tx_gullet.specs.Levels.{levels, KnowsEquivalents}
use Rattle.tx_gullet.specs.Outcomes.{region_outcome}

-- the names, and what they mean
pub record State : Type 0 where
  pub names : Names
  pub equivalents : Equivalents

-- no region runs: the table has all names in the lists of macros, and nothing is saved
pub record IsAtRest (s : State) : Type 0 where
  pub knows : KnowsEquivalents s.names s.equivalents
  pub unsaved : s.equivalents.saves.items ≡ []

-- The state of a session is the one that this map gives. The numbers of names do not matter: it is so for
-- each naming that keeps them apart and agrees with the table.
abbrev pub StandsFor : State → Map → Type 0
StandsFor s map = (naming : Naming) → KeepsApart naming → Agrees naming s.names → levels naming s.equivalents ≡ map ∷ []

-- the same of the state of a format
abbrev pub IsFormat : State → Map → Type 0
IsFormat s map = StandsFor s map

-- the new state is the old one, with the same names
pub record GivesBack (old new : State) : Type 0 where
  pub names : new.names ≡ old.names
  pub stands : (map : Map) → StandsFor old map → StandsFor new map

-- the region came to this outcome from the old state, and the new state is the one that it leaves
abbrev pub Answered : State → List ℕ → ℕ → Outcome → State → Type 0
Answered old text budget outcome new =
    (map : Map) → StandsFor old map → (after : Map) × Region map text budget (region_outcome outcome) after × StandsFor new after
