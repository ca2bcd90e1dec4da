-- Errors of assignments, and how a move goes on behind an answer that may be one.
use Rattle.std.specs.Prelude.{ℕ, List, [], Option, Some, None, Result, Ok, Err}
use Rattle.std.specs.Fmt.{decimal}
use Rattle.tx_private.specs.Errors.{Error}
use Rattle.tx_private.specs.World.{World}
use Rattle.tx_private.specs.Readings.{Move, Bad}
use Rattle.tx_assign.specs.declared.refused.Refused.{Refused}
use Rattle.tx_assign.specs.declared.ranges.ByteError.{ByteError}
use Rattle.tx_assign.specs.declared.ranges.ByteError.TheVariants as byte

-- the limit that an error's text shows
abbrev pub shown_limit : Option ℕ → List ℕ
shown_limit None = []
shown_limit (Some limit) = decimal limit

-- the error as the definitions have it
abbrev pub refused_in : Refused → Error
refused_in e = record { number = e.number; shown = shown_limit e.limit }

-- an answer leads on, or its error ends the region
abbrev pub led : {A : Type 0} → Result A Refused → (A → Move) → World → Move
led (Ok v) further w = further v
led (Err e) further w = Bad (refused_in e) w

-- the number of the error where no register, or no character, has a number
abbrev pub number_of : ByteError → ℕ
number_of byte.Register = 15
number_of byte.Character = 16
