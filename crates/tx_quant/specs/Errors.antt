-- The errors of the readings: the number of the error, and the place of its text.
use Rattle.std.specs.Prelude.{ℕ, pos}
use Rattle.tx_num.specs.declared.quantities.ErrorNo.{ErrorNo}

abbrev pub error : ℕ → ℕ → ErrorNo
error number place = record { no = number; case = place; value = pos 0 }

-- "Missing number"
abbrev pub missing_number : ErrorNo
missing_number = error 9 0

-- "Number too big"
abbrev pub number_too_big : ErrorNo
number_too_big = error 10 0

-- "Illegal unit of measure", with pt, mu or filll inserted
abbrev pub no_unit : ErrorNo
no_unit = error 11 0

abbrev pub no_math_unit : ErrorNo
no_math_unit = error 11 1

abbrev pub too_infinite : ErrorNo
too_infinite = error 11 2

-- "Dimension too large"
abbrev pub dimension_too_large : ErrorNo
dimension_too_large = error 12 0

-- "Incompatible glue units"
abbrev pub incompatible_units : ErrorNo
incompatible_units = error 13 0

-- "Improper alphabetic constant"
abbrev pub improper_constant : ErrorNo
improper_constant = error 19 0
