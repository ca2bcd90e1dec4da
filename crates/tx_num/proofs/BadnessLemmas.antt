-- Badness by its arguments.
use Rattle.std.proofs.Common.{◌≡◌, ℕ, ◌+◌, ◌*◌, ◌/◌, ◌<◌, ◌≤◌, arith, cond, leb, ap, ◌∙◌, inl, inr}
use Rattle.std.specs.Prelude.{ℤ, pos, negsuc, ◌≤ℤ◌, int_le}
use Rattle.std.proofs.Math.Nat.{div-mul-le_self, mul-le-mul_left}
use Rattle.std.proofs.lemmas.Nat.{le-div, mul-le}
use Rattle.std.proofs.lemmas.Bool.{cases_lt, cond-false, cond-true, cond_both, le-leb, lt-leb}
use Rattle.std.proofs.lemmas.Bool.Decides.{nat_tests}
use Rattle.std.proofs.lemmas.Int.{ints}
use Rattle.tx_num.specs.Badness.{cubed, stretch_ratio, badness}
use Rattle.tx_num.proofs.DivisionLemmas.{div-le-div_left, div-le-div_right}

cube-le : (q r : ℕ) → q ≤ r → q * q * q ≤ r * r * r
cube-le q r below = mul-le (q * q) q (r * r) r (mul-le q q r r below below) below

third_power : (r : ℕ) → r ≤ 1290 → (r * r * r + 131072) / 262144 ≤ 10000
third_power r small = omega (arith, cube-le r 1290 small)

pub cubed-le : (r : ℕ) → cubed r ≤ 10000
cubed-le r = grind (arith, nat_tests, third_power r)

pub cubed-awful : (r : ℕ) → 1290 < r → cubed r ≡ 10000
cubed-awful r large = grind (arith, nat_tests)

pub cubed-le-cubed : (q r : ℕ) → q ≤ r → cubed q ≤ cubed r
cubed-le-cubed q r below =
    let cubes : q * q * q ≤ r * r * r = cube-le q r below in
    let quotients : (q * q * q + 131072) / 262144 ≤ (r * r * r + 131072) / 262144 = omega arith in
    grind (arith, nat_tests, cubed-le q, quotients)

pub badness-le : (t s : ℤ) → badness t s ≤ 10000
badness-le t s =
    cond_both (int_le t (pos 0)) 0 _ (λ b. b ≤ 10000) (λ _. omega arith)
    (λ _. cond_both (int_le s (pos 0)) 10000 _ (λ b. b ≤ 10000) (λ _. omega arith) (λ _. cubed-le _))

ratio_small : (t s : ℕ) → t ≤ 7230584 → stretch_ratio t s ≡ t * 297 / s
ratio_small t s small = cond-true (leb t 7230584) _ _ (le-leb t 7230584 small)

ratio_wide : (t s : ℕ) → 7230584 < t → 1663497 ≤ s → stretch_ratio t s ≡ t / (s / 297)
ratio_wide t s large wide =
    cond-false (leb t 7230584) _ _ (lt-leb t 7230584 large) ∙ cond-true (leb 1663497 s) _ _ (le-leb 1663497 s wide)

ratio_narrow : (t s : ℕ) → 7230584 < t → s < 1663497 → stretch_ratio t s ≡ t
ratio_narrow t s large narrow =
    cond-false (leb t 7230584) _ _ (lt-leb t 7230584 large) ∙ cond-false (leb 1663497 s) _ _ (lt-leb 1663497 s narrow)

-- past the change of formula the ratio is no smaller
long_division : (t more s : ℕ) → 0 < s / 297 → t ≤ more → t * 297 / s ≤ more / (s / 297)
long_division t more s positive below =
    let parts : s / 297 * 297 ≤ s = omega arith in
    le-div (t * 297 / s) more (s / 297) positive (omega (arith, div-mul-le_self (t * 297) s, mul-le-mul_left (t * 297 / s) parts))

ratio-le_wide : (t more s : ℕ) → 1663497 ≤ s → t ≤ more → stretch_ratio t s ≤ more / (s / 297)
ratio-le_wide t more s wide below =
    elim (cases_lt 7230584 t) [
      | inl large ↦ rw (ratio_wide t s large wide) (div-le-div_left t more (s / 297) (omega arith) below)
      | inr small ↦ rw (ratio_small t s small) (long_division t more s (omega arith) below)
    ]

awful-le : (r t s : ℕ) → 7230584 < t → s < 1663497 → cubed r ≤ cubed (stretch_ratio t s)
awful-le r t s large narrow =
    let is_awful : cubed (stretch_ratio t s) ≡ 10000 = ap cubed (ratio_narrow t s large narrow) ∙ cubed-awful t (omega arith) in
    omega (arith, cubed-le r, is_awful)

cubed-grows : (t more s : ℕ) → 0 < s → t ≤ more → cubed (stretch_ratio t s) ≤ cubed (stretch_ratio more s)
cubed-grows t more s positive below =
    elim (cases_lt 7230584 more) [
      | inl large ↦ elim (cases_lt s 1663497) [
        | inl narrow ↦ awful-le _ more s large narrow
        | inr wide ↦ cubed-le-cubed _ _ (rw (ratio_wide more s large wide) (ratio-le_wide t more s wide below))
      ]
      | inr small ↦
          let few : t ≤ 7230584 = omega arith in
          cubed-le-cubed _ _ (rw (ratio_small t s few, ratio_small more s small) (div-le-div_left (t * 297) (more * 297) s positive (omega arith)))
    ]

cubed-falls : (t s more : ℕ) → 0 < s → s ≤ more → cubed (stretch_ratio t more) ≤ cubed (stretch_ratio t s)
cubed-falls t s more positive below =
    elim (cases_lt 7230584 t) [
      | inl large ↦ elim (cases_lt s 1663497) [
        | inl narrow ↦ awful-le _ t s large narrow
        | inr wide ↦
            let wider : 1663497 ≤ more = omega arith in
            cubed-le-cubed _ _ (rw (ratio_wide t s large wide, ratio_wide t more large wider) (div-le-div_right t (s / 297) (more / 297) (omega arith) (omega arith)))
      ]
      | inr small ↦ cubed-le-cubed _ _ (rw (ratio_small t s small, ratio_small t more small) (div-le-div_right (t * 297) s more positive below))
    ]

-- the cases of badness, for any two ratios
cases-grow : (a b c q r : ℕ) → a ≤ b → q ≤ 10000 → (0 < c → q ≤ r) →
    cond (leb a 0) 0 (cond (leb c 0) 10000 q) ≤ cond (leb b 0) 0 (cond (leb c 0) 10000 r)
cases-grow a b c q r below bound grow = grind (arith, nat_tests)

cases-fall : (a c d q r : ℕ) → c ≤ d → r ≤ 10000 → (0 < c → r ≤ q) →
    cond (leb a 0) 0 (cond (leb d 0) 10000 r) ≤ cond (leb a 0) 0 (cond (leb c 0) 10000 q)
cases-fall a c d q r below bound fall = grind (arith, nat_tests)

pub badness-grows : (s t more : ℤ) → t ≤ℤ more → badness t s ≤ badness more s
badness-grows s (negsuc a) more below = omega arith
badness-grows s (pos a) (negsuc b) below = absurd (omega (arith, ints))
badness-grows (negsuc c) (pos a) (pos b) below =
    let le : a ≤ b = omega (arith, ints) in grind (arith, nat_tests)
badness-grows (pos c) (pos a) (pos b) below =
    let le : a ≤ b = omega (arith, ints) in
    cases-grow a b c (cubed (stretch_ratio a c)) (cubed (stretch_ratio b c)) le (cubed-le (stretch_ratio a c)) (λ positive. cubed-grows a b c positive le)

pub badness-falls : (t s more : ℤ) → s ≤ℤ more → badness t more ≤ badness t s
badness-falls (negsuc a) s more below = omega arith
badness-falls (pos a) (pos c) (negsuc d) below = absurd (omega (arith, ints))
badness-falls (pos a) (negsuc c) (negsuc d) below = omega arith
badness-falls (pos a) (negsuc c) (pos d) below =
    cases-fall a 0 d 10000 (cubed (stretch_ratio a d)) (omega arith) (cubed-le (stretch_ratio a d)) (λ _. cubed-le (stretch_ratio a d))
badness-falls (pos a) (pos c) (pos d) below =
    let le : c ≤ d = omega (arith, ints) in
    cases-fall a c d (cubed (stretch_ratio a c)) (cubed (stretch_ratio a d)) le (cubed-le (stretch_ratio a d)) (λ positive. cubed-falls a c d positive le)
