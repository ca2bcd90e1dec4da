-- Dimensions and decimals (TeX: The Program, sections 102 and 103).
use Rattle.std.specs.Prelude.{ℕ, zero, suc, ◌+◌, ◌-◌, ◌*◌, ◌/◌, ◌%◌, ◌^◌, nat_le, nat_lt, if◌then◌else◌, List, [], ◌∷◌, ◌++◌, map, ℤ, pos, negsuc, unsigned_abs, codes}
use Rattle.std.specs.Fmt.{decimal}

-- 2^17 times the number whose decimals these are, cut to a whole number at each digit, the last one first
abbrev pub decimals_scaled : List ℕ → ℕ
decimals_scaled [] = 0
decimals_scaled (digit ∷ digits) = (decimals_scaled digits + digit * 2 ^ 17) / 10

-- the 65536ths that are nearest to these decimals, a tie up
abbrev pub round_digits : List ℕ → ℕ
round_digits digits = (decimals_scaled digits + 1) / 2

-- The last digit that may come is rounded, and not cut: s - 50000 is then 655360 times what is left of
-- the fraction, and 32768 is half a digit.
abbrev pub to_last_digit : ℕ → ℕ → ℕ
to_last_digit s delta = if nat_lt 65536 delta then s + 32768 - 50000 else s

-- The decimals that are still to come, at most so many. Here s is 655360 times what is left of the
-- fraction, plus half of delta, and decimals that tell less than s, and not less than s - delta, read
-- back as the fraction.
unfoldable pub decimals_below : ℕ → ℕ → ℕ → List ℕ
decimals_below zero s delta = []
decimals_below (suc more) s delta =
    let top = to_last_digit s delta in
    let rest = 10 * (top % 65536) in
    top / 65536 ∷ (if nat_le rest (10 * delta) then [] else decimals_below more rest (10 * delta))

-- the decimals that are printed for so many 65536ths: no fewer would read back as them
abbrev pub decimals : ℕ → List ℕ
decimals fraction = decimals_below 5 (10 * fraction + 5) 10

-- digits as bytes of a text, in which 48 is 0
abbrev pub digit_bytes : List ℕ → List ℕ
digit_bytes digits = map (λ digit. 48 + digit) digits

-- a minus, or nothing
abbrev pub minus_if_negative : ℤ → List ℕ
minus_if_negative (pos n) = []
minus_if_negative (negsuc n) = codes "-"

-- the text of so many scaled points, counted in points: the whole points, a point and the decimals
abbrev pub shown_sp : ℤ → List ℕ
shown_sp v =
    minus_if_negative v ++ decimal (unsigned_abs v / 65536) ++ codes "." ++ digit_bytes (decimals (unsigned_abs v % 65536))
