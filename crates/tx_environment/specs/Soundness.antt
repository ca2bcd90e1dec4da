-- When the tables of categories are those of the maps.
use Rattle.std.specs.Prelude.{◌≡◌, ℕ, ℤ, pos, nat_lt, List, [], ◌∷◌, ⊤, if◌then◌else◌}
use Rattle.tx_model.specs.declared.category.Cat.{Cat}
use Rattle.tx_model.specs.declared.category.Cat.TheVariants as cat
use Rattle.tx_scan.specs.declared.cats.Cats.{Cats}
use Rattle.tx_scan.specs.Scans.{category_by}
use Rattle.tx_node.specs.declared.BoxNode.{BoxNode}
use Rattle.tx_eqtb.specs.declared.addr.AddrKind.TheVariants as kind
use Rattle.tx_eqtb.specs.declared.meaning.Meaning.{Meaning}
use Rattle.tx_eqtb.specs.declared.meaning.Meaning.TheVariants as meaning
use Rattle.tx_eqtb.specs.Meanings.{Map}
use Rattle.tx_eqtb.specs.Tables.{now, before}
use Rattle.tx_save.specs.Saves.{Fits, outside}
use Rattle.tx_private.specs.Categories.{category_numbered}
use Rattle.tx_views.specs.Places.{numbered}
use Rattle.tx_environment.specs.States.{State}

-- the category that a meaning gives a byte: that of an integer is by its number
abbrev pub category_given : Meaning BoxNode → Cat
category_given (meaning.Int n) = category_numbered n
category_given _ = category_numbered (pos 0)

-- the category that a map gives a byte
abbrev pub category_in : Map BoxNode → ℕ → Cat
category_in m b = if nat_lt b 256 then category_given (m (numbered kind.CatCode b)) else cat.Other

-- the categories of a table are those of a map
abbrev pub AreCategories : Cats → Map BoxNode → Type 0
AreCategories cats m = (b : ℕ) → category_by cats b ≡ category_in m b

-- the relation holds of the items of the lists one by one, and there are as many
abbrev pub Pairwise : {X Y : Type 0} → (X → Y → Type 0) → List X → List Y → Type 0
Pairwise R [] [] = ⊤
Pairwise R (x ∷ xs) (y ∷ ys) = R x y × Pairwise R xs ys
Pairwise R _ _ = ⊥

-- the categories now are those of the map now
abbrev pub IsPresent : Map BoxNode → State → Type 0
IsPresent frozen e = AreCategories e.cats (now frozen e.table)

-- the categories before the region are those of the map before it
abbrev pub IsFirst : Map BoxNode → State → Type 0
IsFirst frozen e = AreCategories e.first (before frozen e.table)

-- all that is saved can be put back, and the tables of categories are those of the maps, level by level
pub record IsSound (frozen : Map BoxNode) (e : State) : Type 0 where
  pub fits : Fits e.table e.saves
  pub present : IsPresent frozen e
  pub outer : Pairwise AreCategories e.outer (outside frozen e.table e.saves)
  pub first : IsFirst frozen e

-- The same while a group ends, when the categories now aren't those of the map now.
pub record IsClosing (frozen : Map BoxNode) (e : State) : Type 0 where
  pub fits : Fits e.table e.saves
  pub outer : Pairwise AreCategories e.outer (outside frozen e.table e.saves)
  pub first : IsFirst frozen e
