-- The decimals of a fraction: what they read back as, that they are the fewest, and that they are digits.
use Rattle.std.proofs.Common.{◌≡◌, ℕ, zero, suc, ◌+◌, ◌-◌, ◌*◌, ◌/◌, ◌%◌, ◌<◌, ◌≤◌, List, [], ◌∷◌, length, cond, leb, refl, arith}
use Rattle.std.specs.List.{All, AllByRecursion}
use Rattle.std.proofs.lemmas.Bool.{cond_both, le-ltb, leb-false, leb-true}
use Rattle.std.proofs.lemmas.Bool.Decides.{nat_tests}
use Rattle.std.proofs.lemmas.List.Elements.{All-cons, All-nil, recursion_from_All}
use Rattle.tx_num.specs.Decimals.{decimals, decimals_below, decimals_scaled, round_digits, to_last_digit}

-- What these decimals tell, taken 655360 times, is below s and not below s - delta: five times as much
-- as 2^17 times what they tell, cut, is, since s and delta are multiples of five.
record IsWithin (s delta : ℕ) (digits : List ℕ) : Type 0 where
  above : s ≤ 5 * decimals_scaled digits + delta
  below : 5 * decimals_scaled digits < s

digit_within : (s u delta v : ℕ) (digits : List ℕ) → s ≡ 5 * u → delta ≡ 5 * v → IsWithin (10 * (s % 65536)) (10 * delta) digits →
    IsWithin s delta (s / 65536 ∷ digits)
digit_within s u delta v digits s_is delta_is within = record {
  above = omega (arith, within.above, within.below);
  below = omega (arith, within.above, within.below);
}

decimals_below-suc : (more s delta : ℕ) → delta ≤ 65536 →
    decimals_below (suc more) s delta
    ≡ s / 65536 ∷ cond (leb (10 * (s % 65536)) (10 * delta)) [] (decimals_below more (10 * (s % 65536)) (10 * delta))
unfolding decimals_below
decimals_below-suc more s delta small = rw (le-ltb 65536 delta small) refl

decimals_within : (more s u delta v : ℕ) → s ≡ 5 * u → delta ≡ 5 * v → delta ≤ 65536 → 0 < s % 65536 →
    (10 * delta < 10 * (s % 65536) → IsWithin (10 * (s % 65536)) (10 * delta) (decimals_below more (10 * (s % 65536)) (10 * delta))) →
    IsWithin s delta (decimals_below (suc more) s delta)
decimals_within more s u delta v s_is delta_is small odd next =
    rw (decimals_below-suc more s delta small)
    (cond_both (leb (10 * (s % 65536)) (10 * delta)) [] (decimals_below more (10 * (s % 65536)) (10 * delta)) (λ digits. IsWithin s delta (s / 65536 ∷ digits))
    (λ stops. digit_within s u delta v [] s_is delta_is (record { above = omega (arith, leb-true (10 * (s % 65536)) (10 * delta) stops); below = omega arith }))
    (λ goes_on. digit_within s u delta v _ s_is delta_is (next (leb-false (10 * (s % 65536)) (10 * delta) goes_on))))

-- the last of five digits
fifth_within : (s : ℕ) → 100000 < s → IsWithin s 100000 (decimals_below 1 s 100000)
unfolding decimals_below
fifth_within s large =
    cond_both (leb (10 * ((s + 32768 - 50000) % 65536)) 1000000) [] [] (λ digits. IsWithin s 100000 ((s + 32768 - 50000) / 65536 ∷ digits))
    (λ _. last) (λ _. last)
  where
    last : IsWithin s 100000 ((s + 32768 - 50000) / 65536 ∷ [])
    last = record { above = omega arith; below = omega arith }

-- S is a multiple of each power of two up to the number of digits before it, and of no higher one.
fourth_within : (s u : ℕ) → s ≡ 5 * u → s % 16 ≡ 8 → IsWithin s 10000 (decimals_below 2 s 10000)
fourth_within s u s_is even =
    decimals_within 1 s u 10000 2000 s_is refl (omega arith) (omega arith) (λ goes_on. fifth_within (10 * (s % 65536)) (omega arith))

third_within : (s u : ℕ) → s ≡ 5 * u → s % 8 ≡ 4 → IsWithin s 1000 (decimals_below 3 s 1000)
third_within s u s_is even =
    decimals_within 2 s u 1000 200 s_is refl (omega arith) (omega arith) (λ _. fourth_within (10 * (s % 65536)) (2 * (s % 65536)) (omega arith) (omega arith))

second_within : (s u : ℕ) → s ≡ 5 * u → s % 4 ≡ 2 → IsWithin s 100 (decimals_below 4 s 100)
second_within s u s_is even =
    decimals_within 3 s u 100 20 s_is refl (omega arith) (omega arith) (λ _. third_within (10 * (s % 65536)) (2 * (s % 65536)) (omega arith) (omega arith))

first_within : (s u : ℕ) → s ≡ 5 * u → s % 2 ≡ 1 → IsWithin s 10 (decimals_below 5 s 10)
first_within s u s_is odd =
    decimals_within 4 s u 10 2 s_is refl (omega arith) (omega arith) (λ _. second_within (10 * (s % 65536)) (2 * (s % 65536)) (omega arith) (omega arith))

pub round_digits-decimals : (fraction : ℕ) → fraction < 65536 → round_digits (decimals fraction) ≡ fraction
round_digits-decimals fraction small =
    let within = first_within (10 * fraction + 5) (2 * fraction + 1) (omega arith) (omega arith) in
    omega (arith, within.above, within.below)

-- ---- no fewer digits read back

AreDigits : List ℕ → Type 0
AreDigits = AllByRecursion (λ digit. digit ≤ 9)

scaled_small : (digits : List ℕ) → AreDigits digits → decimals_scaled digits < 131072
unfolding AreDigits
scaled_small [] are = omega arith
scaled_small (digit ∷ digits) are = omega (arith, are.0, scaled_small digits are.1)

length-decimals_below-le : (more s delta : ℕ) → length (decimals_below more s delta) ≤ more
unfolding decimals_below
length-decimals_below-le zero s delta = omega arith
length-decimals_below-le (suc more) s delta =
    let rest : ℕ = 10 * (to_last_digit s delta % 65536) in
    cond_both (leb rest (10 * delta)) [] (decimals_below more rest (10 * delta)) (λ digits. length (to_last_digit s delta / 65536 ∷ digits) ≤ suc more)
    (λ _. omega arith) (λ _. omega (arith, length-decimals_below-le more rest (10 * delta)))

-- these digits have room for the decimals
HasRoom : ℕ → ℕ → ℕ → List ℕ → Type 0
HasRoom more s delta digits =
    AreDigits digits → 0 < length digits → IsWithin s delta digits → length (decimals_below more s delta) ≤ length digits

-- where the decimals go on, the first digit can be no other, and the rest is not empty
room_after : (more s u delta v digit : ℕ) (digits : List ℕ) → s ≡ 5 * u → delta ≡ 5 * v →
    AreDigits (digit ∷ digits) → IsWithin s delta (digit ∷ digits) → 10 * delta < 10 * (s % 65536) →
    HasRoom more (10 * (s % 65536)) (10 * delta) digits → length (decimals_below more (10 * (s % 65536)) (10 * delta)) ≤ length digits
unfolding AreDigits HasRoom
room_after more s u delta v digit [] s_is delta_is are within goes_on next = absurd (omega (arith, within.above, within.below, are.0))
room_after more s u delta v digit (second ∷ digits) s_is delta_is are within goes_on next =
    let small = scaled_small (second ∷ digits) are.1 in
    let same : digit ≡ s / 65536 = omega (arith, within.above, within.below, small) in
    next are.1 (omega arith) (record {
      above = omega (arith, within.above, within.below, same);
      below = omega (arith, within.above, within.below, same);
    })

room : (more s u delta v : ℕ) (digits : List ℕ) → s ≡ 5 * u → delta ≡ 5 * v → delta ≤ 65536 →
    (10 * delta < 10 * (s % 65536) → (rest : List ℕ) → HasRoom more (10 * (s % 65536)) (10 * delta) rest) → HasRoom (suc more) s delta digits
unfolding HasRoom
room more s u delta v [] s_is delta_is small next are filled within = absurd (omega arith)
room more s u delta v (digit ∷ digits) s_is delta_is small next are filled within =
    rw (decimals_below-suc more s delta small)
    (cond_both (leb (10 * (s % 65536)) (10 * delta)) [] (decimals_below more (10 * (s % 65536)) (10 * delta))
    (λ rest. length (s / 65536 ∷ rest) ≤ length (digit ∷ digits))
    (λ _. omega arith)
    (λ test.
    let goes_on : 10 * delta < 10 * (s % 65536) = leb-false (10 * (s % 65536)) (10 * delta) test in
    omega (arith, room_after more s u delta v digit digits s_is delta_is are within goes_on (next goes_on digits))))

room_5 : (s delta : ℕ) (digits : List ℕ) → HasRoom 1 s delta digits
unfolding HasRoom
room_5 s delta digits are filled within = omega (arith, length-decimals_below-le 1 s delta)

room_4 : (s u : ℕ) (digits : List ℕ) → s ≡ 5 * u → HasRoom 2 s 10000 digits
room_4 s u digits s_is = room 1 s u 10000 2000 digits s_is refl (omega arith) (λ _. room_5 (10 * (s % 65536)) 100000)

room_3 : (s u : ℕ) (digits : List ℕ) → s ≡ 5 * u → HasRoom 3 s 1000 digits
room_3 s u digits s_is =
    room 2 s u 1000 200 digits s_is refl (omega arith) (λ _ rest. room_4 (10 * (s % 65536)) (2 * (s % 65536)) rest (omega arith))

room_2 : (s u : ℕ) (digits : List ℕ) → s ≡ 5 * u → HasRoom 4 s 100 digits
room_2 s u digits s_is =
    room 3 s u 100 20 digits s_is refl (omega arith) (λ _ rest. room_3 (10 * (s % 65536)) (2 * (s % 65536)) rest (omega arith))

room_1 : (s u : ℕ) (digits : List ℕ) → s ≡ 5 * u → HasRoom 5 s 10 digits
room_1 s u digits s_is =
    room 4 s u 10 2 digits s_is refl (omega arith) (λ _ rest. room_2 (10 * (s % 65536)) (2 * (s % 65536)) rest (omega arith))

pub length-decimals-le : (fraction : ℕ) → fraction < 65536 → (digits : List ℕ) → 0 < length digits → All (λ digit. digit ≤ 9) digits →
    round_digits digits ≡ fraction → length (decimals fraction) ≤ length digits
unfolding AreDigits HasRoom
length-decimals-le fraction small digits filled are reads_back =
    room_1 (10 * fraction + 5) (2 * fraction + 1) digits (omega arith) (recursion_from_All (λ digit. digit ≤ 9) digits are) filled
    (record { above = omega arith; below = omega arith })

-- ---- they are digits

to_last_digit-le : (s delta : ℕ) → to_last_digit s delta ≤ s
to_last_digit-le s delta = grind (arith, nat_tests)

digits_below : (more s delta : ℕ) → s ≤ 655355 → All (λ digit. digit ≤ 9) (decimals_below more s delta)
unfolding decimals_below
digits_below zero s delta small = All-nil (λ digit. digit ≤ 9)
digits_below (suc more) s delta small =
    let rest : ℕ = 10 * (to_last_digit s delta % 65536) in
    All-cons (λ digit. digit ≤ 9) (to_last_digit s delta / 65536) _ (omega (arith, to_last_digit-le s delta))
    (cond_both (leb rest (10 * delta)) [] (decimals_below more rest (10 * delta)) (All (λ digit. digit ≤ 9))
    (λ _. All-nil (λ digit. digit ≤ 9)) (λ _. digits_below more rest (10 * delta) (omega arith)))

decimals_filled : (s delta : ℕ) → 0 < length (decimals_below 5 s delta)
unfolding decimals_below
decimals_filled s delta = omega arith

pub All-decimals : (fraction : ℕ) → fraction < 65536 → All (λ digit. digit ≤ 9) (decimals fraction)
All-decimals fraction small = digits_below 5 (10 * fraction + 5) 10 (omega arith)

pub decimals_some : (fraction : ℕ) → 0 < length (decimals fraction)
decimals_some fraction = decimals_filled (10 * fraction + 5) 10

pub length-decimals-le_five : (fraction : ℕ) → length (decimals fraction) ≤ 5
length-decimals-le_five fraction = length-decimals_below-le 5 (10 * fraction + 5) 10
