-- The ratio by which the glue of a box is set, and the part of a sum of stretches that it gives.
use Rattle.std.specs.Prelude.{◌≤ℤ◌, ◌<ℤ◌, ◌*ℤ◌, ℤ, pos, neg_ℤ}
use Rattle.std.specs.Int.{int_min, int_max}
use Rattle.tx_num.specs.Quotients.{rounded_quotient}

-- num over den
pub record Fraction : Type 0 where
  pub num : ℤ
  pub den : ℤ

-- it is at least 0, and its denominator is above 0
pub record IsRatio (r : Fraction) : Type 0 where
  pub num : pos 0 ≤ℤ r.num
  pub den : pos 0 <ℤ r.den

-- held within a limit on both sides
abbrev pub held_within : ℤ → ℤ → ℤ
held_within limit z = int_max (neg_ℤ limit) (int_min z limit)

-- the ratio's part of a sum, to the nearest whole number, a tie away from zero, held within 10^9
abbrev pub part : Fraction → ℤ → ℤ
part r sum = held_within (pos 1000000000) (rounded_quotient (r.num *ℤ sum) r.den)
