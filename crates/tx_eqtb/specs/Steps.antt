-- What the changes of a table do.
use Rattle.std.specs.Prelude.{◌≡◌, List, [], ◌∷◌, Option, None, Some, is_some, IsSome, option_and_then, if◌then◌else◌}
use Rattle.tx_eqtb.specs.declared.addr.Addr.{Addr}
use Rattle.tx_eqtb.specs.declared.meaning.Meaning.{Meaning}
use Rattle.tx_eqtb.specs.declared.meaning.Before.{Before}
use Rattle.tx_eqtb.specs.declared.meaning.Before.TheVariants as was
use Rattle.tx_eqtb.specs.declared.meaning.Old.{Old}
use Rattle.tx_eqtb.specs.declared.meaning.Old.TheVariants as old
use Rattle.tx_eqtb.specs.Addresses.{entry_at, update}
use Rattle.tx_eqtb.specs.Meanings.{Map}
use Rattle.tx_eqtb.specs.Tables.{Table, entry, noted, now, before}

module _ {B : Type 0} where
  -- from one table to the other an address was set, whatever the frozen map is
  abbrev pub Sets : Table B → Addr → Meaning B → Table B → Type 0
  Sets t at m u = (frozen : Map B) (q : Addr) → now frozen u q ≡ update (now frozen t) at m q

  -- the map now stays
  abbrev pub KeepsNow : Table B → Table B → Type 0
  KeepsNow t u = (frozen : Map B) (q : Addr) → now frozen u q ≡ now frozen t q

  -- the map before the region stays
  abbrev pub KeepsBefore : Table B → Table B → Type 0
  KeepsBefore t u = (frozen : Map B) (q : Addr) → before frozen u q ≡ before frozen t q

  -- what `set` answers, by what the journal says of the address and by its entry
  abbrev pub answer : Option (Before B) → Option (Meaning B) → Old B
  answer noted None = old.Frozen
  answer None (Some m) = old.Kept
  answer (Some b) (Some m) = old.Moved m

  -- what the journal says of the address after that
  abbrev pub note : Option (Before B) → Option (Meaning B) → Before B
  note (Some b) entry = b
  note None None = was.Frozen
  note None (Some m) = was.Kept m

  -- the meaning that an answer hands out
  abbrev pub moved : Old B → List (Meaning B)
  moved old.Frozen = []
  moved old.Kept = []
  moved (old.Moved m) = m ∷ []

  -- the meaning that an address has again once `old` is put back, where it had the first before the region
  abbrev pub meaning_back : Meaning B → Old B → Meaning B
  meaning_back first old.Frozen = first
  meaning_back first old.Kept = first
  meaning_back first (old.Moved m) = m

  -- the entry that an address has again, where the journal said this
  abbrev pub entry_before : Before B → Option (Meaning B)
  entry_before was.Frozen = None
  entry_before (was.Kept m) = Some m

  -- the entry that an address has again once `old` is put back
  abbrev pub entry_back : Option (Before B) → Old B → Option (Meaning B)
  entry_back noted (old.Moved m) = Some m
  entry_back noted _ = option_and_then entry_before noted

  -- what the journal says of it then
  abbrev pub note_back : Option (Before B) → Old B → Option (Before B)
  note_back noted (old.Moved m) = noted
  note_back noted _ = None

  -- `old` is an answer for an address of which the journal says this
  abbrev pub Answered : Option (Before B) → Old B → Type 0
  Answered noted old.Frozen = noted ≡ Some was.Frozen
  Answered noted old.Kept = IsSome (option_and_then entry_before noted)
  Answered noted (old.Moved m) = IsSome noted

  -- where `set` took one table to the other and answered `old`, putting `old` back gives what was there
  abbrev pub GoesBack : Table B → Addr → Old B → Table B → Type 0
  GoesBack t at old u =
      Answered (noted u at) old
      × (note_back (noted u at) old ≡ noted t at)
      × (entry_back (noted u at) old ≡ entry t at)
      × ((frozen : Map B) → meaning_back (before frozen t at) old ≡ now frozen t at)

  -- what is left of a journal says what it said
  abbrev pub IsLeftOf : List (Addr × Before B) → List (Addr × Before B) → Type 0
  IsLeftOf old left = (q : Addr) → IsSome (entry_at left q) → entry_at left q ≡ entry_at old q

  -- the first meanings at the addresses that the journal still has, and the second ones at the others
  abbrev pub where_noted : Table B → Map B → Map B → Map B
  where_noted table here there q = if is_some (noted table q) then here q else there q
