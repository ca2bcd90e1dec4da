-- A table with its save stack, beside the list of whole maps.
use Rattle.std.specs.Prelude.{◌≡◌, ℕ, ◌∷◌}
use Rattle.tx_eqtb.specs.Meanings.{Map}
use Rattle.tx_eqtb.specs.Tables.{Table, now, before}
use Rattle.tx_save.specs.Saves.{Saves, outside}
use Rattle.tx_levels.specs.Levels.{Levels, maps}
use Rattle.tx_levels.specs.Wholes.{leads}

-- both sides
pub record Sides : Type 0 where
  pub table : Table ℕ
  pub saves : Saves ℕ
  pub levels : Levels

-- the same maps at all levels, and before the region
abbrev pub Agrees : Table ℕ → Saves ℕ → Levels → Type 0
Agrees table saves levels =
    (frozen : Map ℕ) → (now frozen table ∷ outside frozen table saves ≡ maps frozen levels) × (before frozen table ≡ leads levels.first frozen)
