-- Laws of the list of whole maps.
use Rattle.std.specs.Prelude.{◌≡◌, ℕ, ℤ, true, false, ◌∷◌, map}
use Rattle.tx_eqtb.specs.declared.addr.Addr.{Addr}
use Rattle.tx_eqtb.specs.declared.meaning.Meaning.TheVariants as meaning
use Rattle.tx_eqtb.specs.Addresses.{update}
use Rattle.tx_eqtb.specs.Meanings.{Map}
use Rattle.tx_levels.specs.Wholes.{leads}
use Rattle.tx_levels.specs.Levels.{Levels, maps, begun, assigned}

-- a group's start repeats the innermost map
abbrev pub StartRepeats : Type 0
StartRepeats = (frozen : Map ℕ) (levels : Levels) → maps frozen (begun levels) ≡ leads levels.innermost frozen ∷ maps frozen levels

-- a local assignment changes the innermost map, and no other
abbrev pub LocalChangesOne : Type 0
LocalChangesOne =
    (frozen : Map ℕ) (levels : Levels) (at : Addr) (n : ℤ) → maps frozen (assigned false at n levels) ≡ update (leads levels.innermost frozen) at (meaning.Int n) ∷ map (λ whole. leads whole frozen) levels.outer

-- a global assignment changes all maps
abbrev pub GlobalChangesAll : Type 0
GlobalChangesAll =
    (frozen : Map ℕ) (levels : Levels) (at : Addr) (n : ℤ) → maps frozen (assigned true at n levels) ≡ map (λ m. update m at (meaning.Int n)) (maps frozen levels)
