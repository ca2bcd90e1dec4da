-- The part of a sum.
use Rattle.std.proofs.Common.{◌≡◌, ℕ, zero, suc, ◌+◌, ◌*◌, ◌/◌, ◌<◌, ◌≤◌, arith, refl, ap, ◌∙◌, sym, min}
use Rattle.std.specs.Prelude.{ℤ, pos, negsuc, neg_ℤ, ◌≤ℤ◌, ◌<ℤ◌, ◌*ℤ◌, unsigned_abs}
use Rattle.std.proofs.Math.IntN.{*ℤ-negsuc, *ℤ-zero, neg_ℤ-neg_ℤ}
use Rattle.std.proofs.Math.Nat.{div-eq_of_lt, mul-le-mul_left}
use Rattle.std.proofs.lemmas.Int.{ints, clamps}
use Rattle.tx_num.specs.Quotients.{nearest, rounded_quotient}
use Rattle.tx_num.specs.Fractions.{Fraction, IsRatio, held_within, part}
use Rattle.tx_num.proofs.DivisionLemmas.{div-le-div_left}

mul-neg : (a b : ℤ) → a *ℤ neg_ℤ b ≡ neg_ℤ (a *ℤ b)
mul-neg a (pos zero) = rw *ℤ-zero refl
mul-neg a (pos (suc n)) = *ℤ-negsuc a n
mul-neg a (negsuc n) = sym (ap neg_ℤ (*ℤ-negsuc a n) ∙ neg_ℤ-neg_ℤ (a *ℤ pos (suc n)))

nearest-zero : (d : ℕ) → nearest 0 d ≡ 0
nearest-zero zero = refl
nearest-zero (suc d) = div-eq_of_lt (omega arith)

rounded_quotient-neg : (n d : ℤ) → rounded_quotient (neg_ℤ n) d ≡ neg_ℤ (rounded_quotient n d)
rounded_quotient-neg (pos zero) (pos d) = rw nearest-zero refl
rounded_quotient-neg (pos zero) (negsuc d) = rw nearest-zero refl
rounded_quotient-neg (pos (suc n)) (pos d) = refl
rounded_quotient-neg (pos (suc n)) (negsuc d) = sym (neg_ℤ-neg_ℤ _)
rounded_quotient-neg (negsuc n) (pos d) = sym (neg_ℤ-neg_ℤ _)
rounded_quotient-neg (negsuc n) (negsuc d) = refl

held_within-neg : (limit : ℕ) (z : ℤ) → held_within (pos limit) (neg_ℤ z) ≡ neg_ℤ (held_within (pos limit) z)
held_within-neg limit z = omega (arith, ints, clamps)

pub part-neg : (r : Fraction) (sum : ℤ) → part r (neg_ℤ sum) ≡ neg_ℤ (part r sum)
part-neg r sum =
    ap (λ n. held_within (pos 1000000000) (rounded_quotient n r.den)) (mul-neg r.num sum)
    ∙ ap (held_within (pos 1000000000)) (rounded_quotient-neg (r.num *ℤ sum) r.den)
    ∙ held_within-neg 1000000000 (rounded_quotient (r.num *ℤ sum) r.den)

mul-le-mul : (num a b : ℤ) → pos 0 ≤ℤ num → a ≤ℤ b → (num *ℤ a) ≤ℤ (num *ℤ b)
mul-le-mul (pos n) (pos a) (pos b) at_least below =
    let le : a ≤ b = omega (arith, ints) in omega (arith, ints, mul-le-mul_left n le)
mul-le-mul (pos n) (pos a) (negsuc b) at_least below = absurd (omega (arith, ints))
mul-le-mul (pos n) (negsuc a) (pos b) at_least below = omega (arith, ints)
mul-le-mul (pos n) (negsuc a) (negsuc b) at_least below =
    let le : suc b ≤ suc a = omega (arith, ints) in omega (arith, ints, mul-le-mul_left n le)
mul-le-mul (negsuc n) a b at_least below = absurd (omega (arith, ints))

nearest-le : (m n d : ℕ) → 0 < d → m ≤ n → nearest m d ≤ nearest n d
nearest-le m n d positive below = div-le-div_left (2 * m + d) (2 * n + d) (2 * d) (omega arith) (omega arith)

rounded_quotient-le : (a b den : ℤ) → pos 0 <ℤ den → a ≤ℤ b → rounded_quotient a den ≤ℤ rounded_quotient b den
rounded_quotient-le (pos a) (pos b) (pos d) positive below =
    let le = nearest-le a b d (omega (arith, ints)) (omega (arith, ints)) in omega (arith, ints, le)
rounded_quotient-le (pos a) (negsuc b) (pos d) positive below = absurd (omega (arith, ints))
rounded_quotient-le (negsuc a) (pos b) (pos d) positive below = omega (arith, ints)
rounded_quotient-le (negsuc a) (negsuc b) (pos d) positive below =
    let le = nearest-le (suc b) (suc a) d (omega (arith, ints)) (omega (arith, ints)) in omega (arith, ints, le)
rounded_quotient-le a b (negsuc d) positive below = absurd (omega (arith, ints))

held_within-le : (limit a b : ℤ) → a ≤ℤ b → held_within limit a ≤ℤ held_within limit b
held_within-le limit a b below = omega (arith, ints, clamps)

pub part-le : (r : Fraction) → IsRatio r → (sum more : ℤ) → sum ≤ℤ more → part r sum ≤ℤ part r more
part-le r is_ratio sum more below =
    held_within-le (pos 1000000000) _ _
    (rounded_quotient-le (r.num *ℤ sum) (r.num *ℤ more) r.den is_ratio.den (mul-le-mul r.num sum more is_ratio.num below))

-- how large the part is, by absolute values
abbrev pub size_of_part : ℤ → ℤ → ℤ → ℕ
size_of_part num den sum =
    min ((2 * (unsigned_abs num * unsigned_abs sum) + unsigned_abs den) / (2 * unsigned_abs den)) 1000000000

part_at : (num den : ℤ) (m : ℕ) → pos 0 ≤ℤ num → pos 0 <ℤ den →
    part (record { num = num; den = den }) (pos m) ≡ pos (size_of_part num den (pos m))
part_at (pos n) (pos d) m at_least positive = omega (arith, ints, clamps)
part_at (pos n) (negsuc d) m at_least positive = absurd (omega (arith, ints))
part_at (negsuc n) den m at_least positive = absurd (omega (arith, ints))

pub part_not_negative : (num den sum : ℤ) → pos 0 ≤ℤ num → pos 0 <ℤ den → pos 0 ≤ℤ sum →
    part (record { num = num; den = den }) sum ≡ pos (size_of_part num den sum)
part_not_negative num den (pos m) at_least positive sign = part_at num den m at_least positive
part_not_negative num den (negsuc m) at_least positive sign = absurd (omega (arith, ints))

pub part_negative : (num den sum : ℤ) → pos 0 ≤ℤ num → pos 0 <ℤ den → sum <ℤ pos 0 →
    part (record { num = num; den = den }) sum ≡ neg_ℤ (pos (size_of_part num den sum))
part_negative num den (pos m) at_least positive sign = absurd (omega (arith, ints))
part_negative num den (negsuc m) at_least positive sign =
    part-neg (record { num = num; den = den }) (pos (suc m)) ∙ ap neg_ℤ (part_at num den (suc m) at_least positive)
