-- A table over a frozen one, and the way back to what it was before a region.
use Rattle.std.specs.Prelude.{◌≡◌, Bool, List, [], ◌∷◌, ◌++◌, Option, IsSome, unwrap_or, count_by}
use Rattle.std.specs.Map.{values_of}
use Rattle.std.specs.Option.{option_map_or}
use Rattle.tx_eqtb.specs.declared.addr.Addr.{Addr}
use Rattle.tx_eqtb.specs.declared.meaning.Meaning.{Meaning}
use Rattle.tx_eqtb.specs.declared.meaning.Before.{Before}
use Rattle.tx_eqtb.specs.declared.meaning.Before.TheVariants as was
use Rattle.tx_eqtb.specs.Addresses.{entry_at}
use Rattle.tx_eqtb.specs.Meanings.{Map}

-- what was set, and for each address that the region set what stood there before
pub record Table (B : Type 0) : Type 0 where
  pub entries : List (Addr × Meaning B)
  pub journal : List (Addr × Before B)

-- every address of the journal has an entry
abbrev pub IsNoted : {B : Type 0} → List (Addr × Meaning B) → List (Addr × Before B) → Type 0
IsNoted entries journal = (at : Addr) → IsSome (entry_at journal at) → IsSome (entry_at entries at)

module _ {B : Type 0} where
  -- a table in which nothing is set
  abbrev pub nothing_set : Table B
  nothing_set = record { entries = []; journal = [] }

  -- the entry at an address
  abbrev pub entry : Table B → Addr → Option (Meaning B)
  entry table at = entry_at table.entries at

  -- what the journal says of an address
  abbrev pub noted : Table B → Addr → Option (Before B)
  noted table at = entry_at table.journal at

  -- the map now: what is set, over the frozen map
  abbrev pub now : Map B → Table B → Map B
  now frozen table at = unwrap_or (entry table at) (frozen at)

  -- what the journal means, over the frozen meaning
  abbrev pub said : Meaning B → Before B → Meaning B
  said frozen was.Frozen = frozen
  said frozen (was.Kept m) = m

  -- the map before the region
  abbrev pub before : Map B → Table B → Map B
  before frozen table at = option_map_or (said (frozen at)) (noted table at) (now frozen table at)

  -- the meaning that a note of the journal keeps
  abbrev pub in_note : Before B → List (Meaning B)
  in_note was.Frozen = []
  in_note (was.Kept m) = m ∷ []

  -- the meanings that a journal keeps
  abbrev pub kept : List (Addr × Before B) → List (Meaning B)
  kept [] = []
  kept (e ∷ journal) = in_note e.1 ++ kept journal

  -- all the meanings that a table holds
  abbrev pub held : Table B → List (Meaning B)
  held table = values_of table.entries ++ kept table.journal

  -- the lists have the same meanings, each as often: every test holds of as many
  abbrev pub SameCounts : List (Meaning B) → List (Meaning B) → Type 0
  SameCounts xs ys = (test : Meaning B → Bool) → count_by test xs ≡ count_by test ys
