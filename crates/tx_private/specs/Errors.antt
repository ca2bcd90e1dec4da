-- Errors and their lines in the log. *TeX: The Program*, part 6.
use Rattle.std.specs.Prelude.{ℕ, ℤ, pos, unsigned_abs, List, [], ◌++◌, codes, Option, unwrap_or}
use Rattle.std.specs.Option.{option_map}
use Rattle.std.specs.Fmt.{decimal}
use Rattle.tx_model.specs.Log.{log_line}
use Rattle.tx_num.specs.Decimals.{minus_if_negative}
use Rattle.tx_num.specs.declared.quantities.ErrorNo.{ErrorNo}
use Rattle.tx_prims.specs.declared.errors.Hole.{Hole}
use Rattle.tx_prims.specs.declared.errors.Hole.TheVariants as hole
use Rattle.tx_prims.specs.Errors.{text_of_error, filled}

-- an error, and what its text shows besides a number
pub record Error : Type 0 where
  pub number : ErrorNo
  pub shown : List ℕ

-- the error of this number and case, whose text shows this number
abbrev pub numbered : ℕ → ℕ → ℤ → Error
numbered n place value = record { number = record { no = n; case = place; value = value }; shown = [] }

-- the error of this number and case, whose text shows this
abbrev pub showing : ℕ → ℕ → List ℕ → Error
showing n place shown = record { number = record { no = n; case = place; value = pos 0 }; shown = shown }

-- the error of this number and case, whose text shows this number and this limit
abbrev pub beyond : ℕ → ℕ → ℤ → ℕ → Error
beyond n place value limit = record { number = record { no = n; case = place; value = value }; shown = decimal limit }

abbrev pub plain : ℕ → Error
plain n = numbered n 0 (pos 0)

-- a number in decimal, with its sign
abbrev pub decimal_of : ℤ → List ℕ
decimal_of v = minus_if_negative v ++ decimal (unsigned_abs v)

abbrev pub in_hole : Error → Hole → List ℕ
in_hole e hole.Number = decimal_of e.number.value
-- the only mode so far
in_hole e hole.Mode = codes "vertical mode"
in_hole e _ = e.shown

abbrev pub error_text : Error → List ℕ
error_text e = unwrap_or (option_map (filled (in_hole e)) (text_of_error e.number.no e.number.case)) []

-- the two lines of an error: its text, and the number of its line
abbrev pub error_lines : ℤ → Error → ℕ → List ℕ
error_lines newline_char e line =
    log_line newline_char (codes "! " ++ error_text e) ++ log_line newline_char (codes "l." ++ decimal line)
