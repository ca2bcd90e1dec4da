-- Groups, as maps: one for each open level. The TeXbook, chapter 24.
use Rattle.std.specs.Prelude.{◌≡◌, ◌≢◌, ℕ, ◌+◌, ◌-◌, ◌<◌, ◌==◌, Bool, List, [], ◌∷◌, ◌++◌, map, length, Option, None, Some, ⊤, MatchBool, if◌then◌else◌}
use Rattle.tx_eqtb.specs.declared.addr.Addr.{Addr}
use Rattle.tx_eqtb.specs.declared.meaning.Meaning.{Meaning}
use Rattle.tx_eqtb.specs.declared.meaning.Before.{Before}
use Rattle.tx_eqtb.specs.Addresses.{update}
use Rattle.tx_eqtb.specs.Meanings.{Map}
use Rattle.tx_eqtb.specs.Tables.{Table, noted, now, before, held}
use Rattle.tx_eqtb.specs.Steps.{moved, meaning_back, note_back, Answered}
use Rattle.tx_save.specs.declared.group.Group.{Group}
use Rattle.tx_save.specs.declared.group.GroupKind.TheVariants as kind
use Rattle.tx_save.specs.declared.save.Save.{Save}
use Rattle.tx_save.specs.declared.save.Save.TheVariants as save
use Rattle.std.specs.Option.{option_to_list}
use Rattle.tx_eqtb.specs.declared.meaning.Old.{Old}
use Rattle.tx_save.specs.declared.group.Closed.{Closed}
use Rattle.tx_save.specs.declared.group.Closed.TheVariants as closed
use Rattle.tx_save.specs.Levels.{level_at}

-- a save stack, newest first, with the levels of what addresses mean, the innermost group and the level
pub record Saves (B : Type 0) : Type 0 where
  pub stack : List (Save B)
  pub levels : List (Addr × ℕ)
  pub group : Group
  pub level : ℕ

module _ {B : Type 0} where
  -- The maps of the levels outside the innermost one, innermost first, where `now` is the present map,
  -- `level at` the level of what `at` means, and `first` the map before the region. A group's start
  -- repeats a map; a saved meaning is that of its address outside, unless the present one is global.
  abbrev pub below : Map B → Map B → (Addr → ℕ) → List (Save B) → List (Map B)
  below first now level [] = []
  below first now level (save.Mark outer ∷ stack) = now ∷ below first now level stack
  below first now level (save.Saved at old outer ∷ stack) =
      if level at == 1 then below first now level stack else below first (update now at (meaning_back (first at) old)) (update level at outer) stack

  -- the open groups, innermost first
  abbrev pub groups_of : Group → List (Save B) → List Group
  groups_of group [] = []
  groups_of group (save.Mark outer ∷ stack) = group ∷ groups_of outer stack
  groups_of group (save.Saved at old level ∷ stack) = groups_of group stack

  abbrev pub groups : Saves B → List Group
  groups s = groups_of s.group s.stack

  -- the maps outside the innermost level, over a table
  abbrev pub outside : Map B → Table B → Saves B → List (Map B)
  outside frozen table s = below (before frozen table) (now frozen table) (level_at s.levels) s.stack

  -- all that is saved can be put back, where the journal says this of addresses
  abbrev pub FitsAll : (Addr → Option (Before B)) → (Addr → ℕ) → List (Save B) → Type 0
  FitsAll says level [] = ⊤
  FitsAll says level (save.Mark outer ∷ stack) = FitsAll says level stack
  FitsAll says level (save.Saved at old outer ∷ stack) =
      MatchBool (level at == 1) (FitsAll says level stack) (Answered (says at) old × FitsAll (update says at (note_back (says at) old)) (update level at outer) stack)

  -- all that is saved can be put back into the table
  abbrev pub Fits : Table B → Saves B → Type 0
  Fits table s = FitsAll (noted table) (level_at s.levels) s.stack

  -- each group's saved meanings were replaced at its level, and none are saved outside all groups
  abbrev pub IsLeveled : ℕ → (Addr → ℕ) → List (Save B) → Type 0
  IsLeveled depth level [] = (depth ≡ 1) × ((at : Addr) → level at ≡ 1)
  IsLeveled depth level (save.Mark outer ∷ stack) = (1 < depth) × IsLeveled (depth - 1) level stack
  IsLeveled depth level (save.Saved at old outer ∷ stack) =
      MatchBool (level at == 1) (IsLeveled depth level stack) ((level at ≡ depth) × IsLeveled depth (update level at outer) stack)

  -- the meanings that a save stack holds
  abbrev pub saved : List (Save B) → List (Meaning B)
  saved [] = []
  saved (save.Mark outer ∷ stack) = saved stack
  saved (save.Saved at old level ∷ stack) = moved old ++ saved stack

  -- no group is open
  abbrev pub outermost : Saves B
  outermost = record { stack = []; levels = []; group = record { kind = kind.Simple; after = [] }; level = 1 }

  -- all the meanings that a table and a save stack hold
  abbrev pub all_held : Table B → Saves B → List (Meaning B)
  all_held table s = held table ++ saved s.stack

  -- a global assignment changes the maps of all levels, and a local one none but the innermost
  abbrev pub ChangesOutside : Bool → Addr → Meaning B → Table B → Saves B → Table B → Saves B → Type 0
  ChangesOutside global at m t old u new =
      (frozen : Map B) → outside frozen u new ≡ (if global then map (λ f. update f at m) (outside frozen t old) else outside frozen t old)

  -- what was saved of an address can be put back, unless what it means is global
  abbrev pub CanUnsave : (Addr → Option (Before B)) → (Addr → ℕ) → Addr → Old B → Type 0
  CanUnsave says level at old = level at ≢ 1 → Answered (says at) old

  -- from one table and levels to others, what was saved of an address was put back, unless what it means is global
  abbrev pub Unsaves : Table B → (Addr → ℕ) → Addr → Old B → ℕ → Table B → (Addr → ℕ) → Type 0
  Unsaves t level at old outer u over =
      MatchBool (level at == 1) ((u ≡ t) × ((q : Addr) → over q ≡ level q)) (
      ((frozen : Map B) (q : Addr) → now frozen u q ≡ update (now frozen t) at (meaning_back (before frozen t at) old) q)
      × ((q : Addr) → noted u q ≡ update (noted t) at (note_back (noted t at) old) q)
      × ((q : Addr) → over q ≡ update level at outer q))

  -- What a step of the end of a group does: one saved meaning less, and the maps outside as they were; or
  -- the innermost map and group leave.
  abbrev pub Closes : Table B → Saves B → Closed B → Table B → Saves B → Type 0
  Closes t s (closed.Dropped m) u n =
      ((frozen : Map B) → outside frozen u n ≡ outside frozen t s) × (groups n ≡ groups s) × (n.level ≡ s.level) × (length s.stack ≡ length n.stack + 1)
  Closes t s (closed.End kind after) u n =
      (u ≡ t) × (groups s ≡ record { kind = kind; after = after } ∷ groups n) × ((frozen : Map B) → outside frozen t s ≡ now frozen t ∷ outside frozen u n) × (s.level ≡ n.level + 1)

  -- the meanings that a step hands out
  abbrev pub dropped : Closed B → List (Meaning B)
  dropped (closed.Dropped m) = option_to_list m
  dropped (closed.End kind after) = []

  -- What a step of the giving up of all groups does: one saved entry less, with nothing put back; or the
  -- innermost group leaves.
  abbrev pub Abandons : Saves B → Closed B → Saves B → Type 0
  Abandons s (closed.Dropped m) n = (groups n ≡ groups s) × (n.level ≡ s.level)
  Abandons s (closed.End kind after) n = (groups s ≡ record { kind = kind; after = after } ∷ groups n) × (s.level ≡ n.level + 1)

  -- the meanings that such a step hands out, if there was one
  abbrev pub abandoned : Option (Closed B) → List (Meaning B)
  abandoned None = []
  abandoned (Some step) = dropped step
