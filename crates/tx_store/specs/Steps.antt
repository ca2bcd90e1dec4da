-- What each call of a store does to what its session knows and holds, by the answer.
use Rattle.std.specs.Prelude.{ℕ, ◌≡◌, ◌≢◌, ◌+◌, ◌<◌, ◌^◌, ◌-◌, ◌==◌, List, [], ◌++◌, Option, None, Some, IsSome, slice_get, if◌then◌else◌}
use Rattle.std.specs.Option.{option_map, option_map_or}
use Rattle.tx_tok.specs.declared.tok.Tok.{Tok}
use Rattle.tx_tok.specs.declared.tok.ListRef.{ListRef}
use Rattle.tx_tok.specs.declared.tok.ListRef.TheVariants as list
use Rattle.tx_store.specs.Sessions.{Holding, Session}

-- the names are the same
pub record SameNames (old new : Session) : Type 0 where
  pub names : (n : ℕ) → new.names n ≡ old.names n
  pub format : new.format ≡ old.format

-- so is what is held
pub record SameRow (old new : Session) : Type 0 where
  pub row : (id : ℕ) → new.row id ≡ old.row id
  pub total : new.total ≡ old.total

-- all is the same
abbrev pub Same : Session → Session → Type 0
Same old new = SameNames old new × SameRow old new

-- this text has this number: the one that the session knew, if it knew one, and all other names are the same
pub record AfterIntern (old : Session) (text : List ℕ) (number : ℕ) (new : Session) : Type 0 where
  pub now : new.names number ≡ Some text
  pub known : (n : ℕ) → old.names n ≡ Some text → number ≡ n
  pub free : (other : List ℕ) → old.names number ≡ Some other → other ≡ text
  pub others : (n : ℕ) → n ≢ number → new.names n ≡ old.names n
  pub format : new.format ≡ old.format
  pub row : SameRow old new

-- After a look for a text. A number that it gives may be one that another session made: it is then added to
-- what the session knows.
abbrev pub AfterFind : Session → List ℕ → Option ℕ → Session → Type 0
AfterFind old text (Some number) new = AfterIntern old text number new
AfterFind old text None new = ((n : ℕ) → old.names n ≢ Some text) × Same old new

-- by how many references a number is held
abbrev pub count_of : Option Holding → ℕ
count_of holding = option_map_or (λ h. h.count) holding 0

-- the content that a number is held with
abbrev pub content_of : Option Holding → List Tok
content_of holding = option_map_or (λ h. h.content) holding []

-- so many references to a list, where it is gone without any
abbrev pub holding : List Tok → ℕ → Option Holding
holding content count = if count == 0 then None else Some (record { content = content; count = count })

-- a number is held by so many references to this list, and so many in all; all else is the same
pub record Holds (old : Session) (id : ℕ) (content : List Tok) (count all : ℕ) (new : Session) : Type 0 where
  pub names : SameNames old new
  pub here : new.row id ≡ holding content count
  pub others : (other : ℕ) → other ≢ id → new.row other ≡ old.row other
  pub total : new.total ≡ all

-- there may be one reference more
abbrev pub HasRoom : Session → Type 0
HasRoom session = session.total < 2 ^ 28 - 1

-- a number is held
abbrev pub IsHeld : Session → ℕ → Type 0
IsHeld session id = IsSome (session.row id)

-- After the sharing of a list: an empty one needs no place, one of the format has its number there, and any
-- other is held by one reference more.
abbrev pub AfterShare : Session → List Tok → ListRef → Session → Type 0
AfterShare old content list.Empty new = (content ≡ []) × Same old new
AfterShare old content (list.Frozen k) new = (slice_get old.format.lists k ≡ Some content) × Same old new
AfterShare old content (list.Pooled id) new =
    (content ≢ []) × ((k : ℕ) → slice_get old.format.lists k ≢ Some content)
    × ((h : Holding) → old.row id ≡ Some h → h.content ≡ content)
    × Holds old id content (count_of (old.row id) + 1) (old.total + 1) new

-- one reference more to what the number is held with
abbrev pub AfterTake : Session → ℕ → Session → Type 0
AfterTake old id new = Holds old id (content_of (old.row id)) (count_of (old.row id) + 1) (old.total + 1) new

-- one reference less
abbrev pub AfterRelease : Session → ℕ → Session → Type 0
AfterRelease old id new = Holds old id (content_of (old.row id)) (count_of (old.row id) - 1) (old.total - 1) new
