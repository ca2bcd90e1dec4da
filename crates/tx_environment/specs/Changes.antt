-- What assignments, and the ends of groups, do to tables of categories.
use Rattle.std.specs.Prelude.{◌≡◌, ℕ, ◌+◌, ◌<◌, ◌∷◌, length, ⊤, nat_lt, ◌==◌, ◌&&◌, Bool, false, List, MatchBool, if◌then◌else◌}
use Rattle.tx_model.specs.declared.category.Cat.{Cat}
use Rattle.tx_scan.specs.declared.cats.Cats.{Cats}
use Rattle.tx_scan.specs.Scans.{category_by}
use Rattle.tx_views.specs.declared.place.CodeTable.TheVariants as table
use Rattle.tx_views.specs.declared.place.Place.{Place}
use Rattle.tx_views.specs.declared.place.Place.TheVariants as place
use Rattle.tx_node.specs.declared.BoxNode.{BoxNode}
use Rattle.tx_save.specs.declared.group.Closed.{Closed}
use Rattle.tx_save.specs.declared.group.Closed.TheVariants as closed
use Rattle.tx_environment.specs.Soundness.{Pairwise}

-- whether a place is that of a byte's category
abbrev pub is_category_of : Place → ℕ → Bool
is_category_of (place.Code table.Categories c) b = nat_lt b 256 && (c == b)
is_category_of _ b = false

-- the byte whose category the place is, if there is one, has this category, and the others have theirs
abbrev pub IsGiven : Place → Cat → Cats → Cats → Type 0
IsGiven place category old new = (b : ℕ) → category_by new b ≡ (if is_category_of place b then category else category_by old b)

-- the same of all these tables, or else they stay
abbrev pub IsGivenAround : Bool → Place → Cat → List Cats → List Cats → Type 0
IsGivenAround global place category old new = MatchBool global (Pairwise (IsGiven place category) old new) (new ≡ old)

-- where a group has ended there are categories around it
abbrev pub HasAround : Closed BoxNode → List Cats → Type 0
HasAround (closed.Dropped m) outer = ⊤
HasAround (closed.End kind after) outer = 0 < length outer

-- these are the present ones then
abbrev pub IsLeft : Closed BoxNode → Cats → List Cats → Cats → List Cats → Type 0
IsLeft (closed.Dropped m) cats outer new left = (new ≡ cats) × (left ≡ outer)
IsLeft (closed.End kind after) cats outer new left = outer ≡ new ∷ left

-- and fall away
abbrev pub IsGivenUp : Closed BoxNode → List Cats → List Cats → Type 0
IsGivenUp (closed.Dropped m) outer left = left ≡ outer
IsGivenUp (closed.End kind after) outer left = (length outer ≡ length left + 1)
