-- What a plain store keeps, and what its session knows and holds by it.
use Rattle.std.specs.Prelude.{ℕ, ◌≡◌, ◌≢◌, ◌+◌, ◌-◌, ◌<◌, ◌≤◌, ◌∷◌, List, [], ◌++◌, length, get_or, Option, None, Some, slice_get}
use Rattle.tx_tok.specs.declared.tok.Tok.{Tok}
use Rattle.tx_format.specs.declared.state.Engineless.{Engineless}
use Rattle.tx_store.specs.declared.slots.Slot.{Slot}
use Rattle.tx_store.specs.Sessions.{Holding, Session}
use Rattle.tx_store.specs.Steps.{holding, count_of, content_of}

-- the format, the texts of the names that are not in it, and the places for lists
pub record Plain : Type 0 where
  pub format : Engineless
  pub texts : List (List ℕ)
  pub slots : List Slot

-- all names: those of the format come first
abbrev pub all_names : Plain → List (List ℕ)
all_names plain = plain.format.names ++ plain.texts

-- no text stands there twice
abbrev pub TextsDiffer : List (List ℕ) → Type 0
TextsDiffer texts = (n m : ℕ) (text : List ℕ) → slice_get texts n ≡ Some text → slice_get texts m ≡ Some text → n ≡ m

-- what a place holds, if it is there
abbrev pub held_by : Option Slot → Option Holding
held_by None = None
held_by (Some slot) = holding slot.content slot.count

-- what is held at a place
abbrev pub held_at : List Slot → ℕ → Option Holding
held_at slots id = held_by (slice_get slots id)

-- the references to all places
abbrev pub total : List Slot → ℕ
total [] = 0
total (slot ∷ slots) = slot.count + total slots

abbrev pub session_of : Plain → Session
session_of plain = record {
  names = λ n. slice_get (all_names plain) n;
  row = λ id. held_at plain.slots id;
  total = total plain.slots;
  format = plain.format;
}

-- a place holds a list by so many references, and all places by so many; all others hold what they held
pub record SlotHolds (old : List Slot) (id : ℕ) (content : List Tok) (count all : ℕ) (new : List Slot) : Type 0 where
  pub here : held_at new id ≡ holding content count
  pub others : (other : ℕ) → other ≢ id → held_at new other ≡ held_at old other
  pub total : total new ≡ all
