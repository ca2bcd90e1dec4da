-- Whole maps, one for each open level, and what the calls make of them. The TeXbook, chapter 24.
use Rattle.std.specs.Prelude.{ℕ, ℤ, Bool, List, [], ◌∷◌, map, if◌then◌else◌}
use Rattle.tx_eqtb.specs.declared.addr.Addr.{Addr}
use Rattle.tx_eqtb.specs.Meanings.{Map}
use Rattle.tx_levels.specs.Wholes.{Whole, leads, changed}

-- the map of the innermost level, those of the levels outside it, innermost first, and the one before the region
pub record Levels : Type 0 where
  pub innermost : Whole
  pub outer : List Whole
  pub first : Whole

-- the maps themselves, over a frozen one
abbrev pub maps : Map ℕ → Levels → List (Map ℕ)
maps frozen levels = leads levels.innermost frozen ∷ map (λ whole. leads whole frozen) levels.outer

-- nothing is set and no group is open
abbrev pub at_start : Levels
at_start = record { innermost = []; outer = []; first = [] }

-- a group's start repeats the innermost map
abbrev pub begun : Levels → Levels
begun levels = record { innermost = levels.innermost; outer = levels.innermost ∷ levels.outer; first = levels.first }

-- a local assignment changes the innermost map, a global one all
abbrev pub assigned : Bool → Addr → ℤ → Levels → Levels
assigned global at n levels = record {
  innermost = changed levels.innermost at n;
  outer = (if global then map (λ whole. changed whole at n) levels.outer else levels.outer);
  first = levels.first;
}

-- a group's end drops the innermost map, where it is not the only one
abbrev pub closed : Levels → Levels
closed levels = elim levels.outer [ [] ↦ levels | next ∷ outer ↦ record { innermost = next; outer = outer; first = levels.first } ]

-- a region that is kept: the next one begins with the innermost map
abbrev pub kept : Levels → Levels
kept levels = record { innermost = levels.innermost; outer = levels.outer; first = levels.innermost }

-- a region that is undone: the map before it is the only one
abbrev pub undone : Levels → Levels
undone levels = record { innermost = levels.first; outer = []; first = levels.first }
