-- Badness (TeX: The Program, section 108).
use Rattle.std.specs.Prelude.{ℕ, ◌+◌, ◌*◌, ◌/◌, ◌^◌, nat_le, nat_lt, if◌then◌else◌, ℤ, pos, int_le, unsigned_abs}

-- About 297 times t over s: the third power of 297 is about a hundred times 2^18. Up to 7230584 the
-- product stays below 2^31, and from 1663497 on s / 297 is exact enough. Where t is above the one and
-- s below the other, the ratio is above 1290, and t stands for it.
abbrev pub stretch_ratio : ℕ → ℕ → ℕ
stretch_ratio t s =
    if nat_le t 7230584 then t * 297 / s else if nat_le 1663497 s then t / (s / 297) else t

-- the third power of a ratio over 2^18, to the nearest, but 10000 for a ratio above 1290
abbrev pub cubed : ℕ → ℕ
cubed r = if nat_lt 1290 r then 10000 else (r * r * r + 2 ^ 17) / 2 ^ 18

-- How bad it is to stretch or shrink by t where s can be had: about a hundred times the third power
-- of t over s, and at most 10000, which stands for all that is worse.
abbrev pub badness : ℤ → ℤ → ℕ
badness t s =
    if int_le t (pos 0) then 0
    else if int_le s (pos 0) then 10000 else cubed (stretch_ratio (unsigned_abs t) (unsigned_abs s))
