-- Decimals are rounded to the nearest 65536th.
use Rattle.std.proofs.Common.{◌≡◌, ℕ, ◌+◌, ◌*◌, ◌/◌, ◌^◌, ◌<◌, List, [], ◌∷◌, length, refl, arith, ap, ◌∙◌, sym}
use Rattle.std.specs.Int.Digits.{number_from_digits, number_from_digits_after}
use Rattle.std.proofs.Math.Nat.{add-mul-div_right, add-div_right, div-div-eq-div-mul, one-le-pow, pow-suc}
use Rattle.tx_num.specs.Decimals.{decimals_scaled, round_digits}
use Rattle.tx_num.specs.Quotients.{nearest}

number_after : (n : ℕ) (digits : List ℕ) → number_from_digits_after 10 n digits ≡ n * 10 ^ length digits + number_from_digits 10 digits
number_after n [] = omega arith
number_after n (digit ∷ digits) =
    let power : ℕ = 10 ^ length digits in
    let left : number_from_digits_after 10 n (digit ∷ digits) ≡ (n * 10 + digit) * power + number_from_digits 10 digits =
    number_after (n * 10 + digit) digits in
    let right : number_from_digits_after 10 0 (digit ∷ digits) ≡ (0 * 10 + digit) * power + number_from_digits 10 digits =
    number_after (0 * 10 + digit) digits in
    let shift : 10 ^ length (digit ∷ digits) ≡ power * 10 = pow-suc 10 (length digits) in
    rw shift (left ∙ omega (arith, right))

-- 2^17 times the number, cut once
decimals_scaled_lem : (digits : List ℕ) → decimals_scaled digits ≡ 131072 * number_from_digits 10 digits / 10 ^ length digits
decimals_scaled_lem [] = refl
decimals_scaled_lem (digit ∷ digits) =
    let power : ℕ = 10 ^ length digits in
    let number : ℕ = number_from_digits 10 digits in
    let positive : 0 < power = one-le-pow (length digits) 10 (omega arith) in
    let whole : number_from_digits 10 (digit ∷ digits) ≡ digit * power + number = omega (arith, number_after (0 * 10 + digit) digits) in
    ap (λ scaled. (scaled + digit * 131072) / 10) (decimals_scaled_lem digits)
    ∙ ap (λ n. n / 10) (sym (add-mul-div_right (131072 * number) (digit * 131072) positive))
    ∙ div-div-eq-div-mul (131072 * number + digit * 131072 * power) power 10
    ∙ ap (λ n. n / (power * 10)) (omega (arith, whole))
    ∙ ap (λ n. 131072 * number_from_digits 10 (digit ∷ digits) / n) (sym (pow-suc 10 (length digits)))

pub round_digits-nearest : (digits : List ℕ) →
    round_digits digits ≡ nearest (65536 * number_from_digits 10 digits) (10 ^ length digits)
round_digits-nearest digits =
    let power : ℕ = 10 ^ length digits in
    let number : ℕ = number_from_digits 10 digits in
    let positive : 0 < power = one-le-pow (length digits) 10 (omega arith) in
    ap (λ scaled. (scaled + 1) / 2) (decimals_scaled_lem digits)
    ∙ ap (λ n. n / 2) (sym (add-div_right (131072 * number) positive))
    ∙ div-div-eq-div-mul (131072 * number + power) power 2
    ∙ ap (λ n. n / (power * 2)) (omega arith)
    ∙ ap (λ n. (2 * (65536 * number) + power) / n) (omega arith)
