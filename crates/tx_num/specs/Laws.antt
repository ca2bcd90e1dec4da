-- What is proved of the definitions.
use Rattle.std.specs.Prelude.{◌≡◌, ℕ, ◌+◌, ◌*◌, ◌^◌, ◌<◌, ◌≤◌, List, ◌++◌, length, map, codes, All, ℤ, ◌≤ℤ◌, neg_ℤ, unsigned_abs}
use Rattle.std.specs.Char.{digit_value}
use Rattle.std.specs.Int.Digits.{number_from_digits}
use Rattle.std.specs.Str.Parse.{IsNumeral, digits_value}
use Rattle.tx_num.specs.Ranges.{IsDimension}
use Rattle.tx_num.specs.Quotients.{nearest}
use Rattle.tx_num.specs.Badness.{badness}
use Rattle.tx_num.specs.Fractions.{Fraction, IsRatio, part}
use Rattle.tx_num.specs.Decimals.{decimals, minus_if_negative, round_digits, shown_sp}

-- the more is to be stretched or shrunk, the worse
abbrev pub BadnessGrows : Type 0
BadnessGrows = (s t more : ℤ) → t ≤ℤ more → badness t s ≤ badness more s

-- the more can be had, the better
abbrev pub BadnessFalls : Type 0
BadnessFalls = (t s more : ℤ) → s ≤ℤ more → badness t more ≤ badness t s

-- 10000 stands for all that is worse
abbrev pub BadnessIsBounded : Type 0
BadnessIsBounded = (t s : ℤ) → badness t s ≤ 10000

-- half of d, or less, lies between n and the multiple of d nearest to it; between two such, the upper
abbrev pub QuotientsAreNearest : Type 0
QuotientsAreNearest =
    (n d : ℕ) → 0 < d → (2 * (nearest n d * d) ≤ 2 * n + d) × (2 * n < 2 * (nearest n d * d) + d)

-- the part of the opposite sum is the opposite part
abbrev pub PartIsOdd : Type 0
PartIsOdd = (r : Fraction) (sum : ℤ) → part r (neg_ℤ sum) ≡ neg_ℤ (part r sum)

-- the part of a larger sum is no smaller
abbrev pub PartGrows : Type 0
PartGrows = (r : Fraction) → IsRatio r → (sum more : ℤ) → sum ≤ℤ more → part r sum ≤ℤ part r more

-- what is printed reads back
abbrev pub DecimalsReadBack : Type 0
DecimalsReadBack = (fraction : ℕ) → fraction < 65536 → round_digits (decimals fraction) ≡ fraction

-- one to five decimals are printed, each from 0 to 9
abbrev pub DecimalsAreDigits : Type 0
DecimalsAreDigits =
    (fraction : ℕ) → fraction < 65536 →
    All (λ digit. digit ≤ 9) (decimals fraction) × (0 < length (decimals fraction)) × (length (decimals fraction) ≤ 5)

-- no fewer digits, but at least one, read back
abbrev pub DecimalsAreFewest : Type 0
DecimalsAreFewest =
    (fraction : ℕ) → fraction < 65536 → (digits : List ℕ) → 0 < length digits → All (λ digit. digit ≤ 9) digits →
    round_digits digits ≡ fraction → length (decimals fraction) ≤ length digits

-- digits after the point are rounded to the nearest 65536th, a tie up
abbrev pub DigitsAreRounded : Type 0
DigitsAreRounded =
    (digits : List ℕ) → round_digits digits ≡ nearest (65536 * number_from_digits 10 digits) (10 ^ length digits)

-- the text of v is a numeral, a point and a numeral, with a minus before them if v is negative, and
-- the points and the rounded decimals make up v
pub record ReadsBack (v : ℤ) : Type 0 where
  pub whole : List ℕ
  pub fraction : List ℕ
  pub text : shown_sp v ≡ minus_if_negative v ++ whole ++ codes "." ++ fraction
  pub whole_digits : IsNumeral 10 whole
  pub fraction_digits : IsNumeral 10 fraction
  pub value : 65536 * digits_value 10 whole + round_digits (map digit_value fraction) ≡ unsigned_abs v

abbrev pub DimensionsReadBack : Type 0
DimensionsReadBack = (v : ℤ) → IsDimension v → ReadsBack v
