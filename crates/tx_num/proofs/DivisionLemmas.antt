-- How quotients compare.
use Rattle.std.proofs.Common.{◌≡◌, ◌+◌, ◌*◌, ◌%◌, ℕ, ◌/◌, ◌<◌, ◌≤◌, arith}
use Rattle.std.proofs.Math.Nat.{div-add-mod, div-mul-le_self, mul-le-mul_left}
use Rattle.std.proofs.lemmas.Nat.{le-div, mod_below}
use Rattle.tx_num.specs.Quotients.{nearest}

-- the larger is divided, the larger the quotient
pub div-le-div_left : (a b c : ℕ) → 0 < c → a ≤ b → a / c ≤ b / c
div-le-div_left a b c positive below = le-div (a / c) b c positive (omega (arith, div-mul-le_self a c))

-- the larger the divisor, the smaller the quotient
pub div-le-div_right : (a c d : ℕ) → 0 < c → c ≤ d → a / d ≤ a / c
div-le-div_right a c d positive below =
    le-div (a / d) a c positive (omega (arith, div-mul-le_self a d, mul-le-mul_left (a / d) below))

-- a quotient to the nearest is no more than half of the divisor away, and below it if it is half
pub nearest-near : (n d : ℕ) → 0 < d → (2 * (nearest n d * d) ≤ 2 * n + d) × (2 * n < 2 * (nearest n d * d) + d)
nearest-near n d positive =
    let parts : 2 * d * ((2 * n + d) / (2 * d)) + (2 * n + d) % (2 * d) ≡ 2 * n + d = div-add-mod (2 * n + d) (2 * d) in
    let rest : (2 * n + d) % (2 * d) < 2 * d = mod_below (2 * n + d) (2 * d) (omega arith) in
    (omega arith, omega arith)
