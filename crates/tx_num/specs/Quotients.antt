-- Quotients to the nearest whole number.
use Rattle.std.specs.Prelude.{ℕ, suc, ◌+◌, ◌*◌, ◌/◌, ℤ, pos, negsuc, neg_ℤ}

-- n over d to the nearest whole number, a tie up
abbrev pub nearest : ℕ → ℕ → ℕ
nearest n d = (2 * n + d) / (2 * d)

-- the same with signs, a tie away from zero
abbrev pub rounded_quotient : ℤ → ℤ → ℤ
rounded_quotient (pos n) (pos d) = pos (nearest n d)
rounded_quotient (pos n) (negsuc d) = neg_ℤ (pos (nearest n (suc d)))
rounded_quotient (negsuc n) (pos d) = neg_ℤ (pos (nearest (suc n) d))
rounded_quotient (negsuc n) (negsuc d) = pos (nearest (suc n) (suc d))
