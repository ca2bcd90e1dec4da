-- What an object of the outside tells of itself: how many of its calls failed, and, where it tells
-- them, the bytes that were read of it, those that are left to read, and those that it got.
use Rattle.std.specs.Prelude.{◌≡◌, ℕ, ◌+◌, ◌-◌, ◌^◌, ◌≤◌, min, List, ◌++◌, Option, None, Some}

pub record Tells : Type 0 where
  pub faults : ℕ
  pub was_read : Option (List ℕ)
  pub left : Option (List ℕ)
  pub got : Option (List ℕ)

-- a count of faults never falls
abbrev pub Grows : ℕ → ℕ → Type 0
Grows old new = old ≤ new

-- A count of faults rose. At its last value, 2 ^ 64 - 1, it counts as risen.
abbrev pub HasRisen : ℕ → ℕ → Type 0
HasRisen old new = (old ≤ new) × (min (old + 1) (2 ^ 64 - 1) ≤ new)

-- these bytes came to the end of what is told; what isn't told stays untold
abbrev pub Gains : Option (List ℕ) → List ℕ → Option (List ℕ) → Type 0
Gains None bytes new = new ≡ None
Gains (Some old) bytes new = new ≡ Some (old ++ bytes)

-- these bytes went from the front of what is told
abbrev pub Loses : Option (List ℕ) → List ℕ → Option (List ℕ) → Type 0
Loses None bytes new = new ≡ None
Loses (Some old) bytes new = (rest : List ℕ) × (old ≡ bytes ++ rest) × (new ≡ Some rest)

-- the next bytes were read, and nothing else happened
pub record ReadsNext (old : Tells) (bytes : List ℕ) (new : Tells) : Type 0 where
  pub was_read : Gains old.was_read bytes new.was_read
  pub left : Loses old.left bytes new.left
  pub got : new.got ≡ old.got

-- the bytes were written, and nothing else happened
pub record Writes (old : Tells) (bytes : List ℕ) (new : Tells) : Type 0 where
  pub was_read : new.was_read ≡ old.was_read
  pub left : new.left ≡ old.left
  pub got : Gains old.got bytes new.got

-- what was read, is left and was got stays as it was
pub record Stays (old new : Tells) : Type 0 where
  pub was_read : new.was_read ≡ old.was_read
  pub left : new.left ≡ old.left
  pub got : new.got ≡ old.got
