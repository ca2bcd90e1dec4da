-- The ranges of dimensions and of integers.
use Rattle.std.specs.Prelude.{◌^◌, ◌<◌, ℤ, unsigned_abs, nat_lt, if◌then◌else◌, Option, Some, None}

-- so many scaled points are a dimension: they are below 2^30 in absolute value
abbrev pub IsDimension : ℤ → Type 0
IsDimension z = unsigned_abs z < 2 ^ 30

-- so many scaled points, where they are a dimension
abbrev pub dimension : ℤ → Option ℤ
dimension z = if nat_lt (unsigned_abs z) (2 ^ 30) then Some z else None

-- a number is an integer of TeX: it is below 2^31 in absolute value
abbrev pub IsInteger : ℤ → Type 0
IsInteger z = unsigned_abs z < 2 ^ 31

-- a number, where it is an integer of TeX
abbrev pub integer : ℤ → Option ℤ
integer z = if nat_lt (unsigned_abs z) (2 ^ 31) then Some z else None
