-- The digits of numbers, and lists that begin with them.
use Rattle.std.proofs.Common.{◌≡◌, ℕ, zero, suc, ◌+◌, ◌-◌, ◌*◌, ◌/◌, ◌%◌, ◌<◌, ◌≤◌, ◌^◌, ◌⊎◌, inl, inr, List, [], ◌∷◌, ◌++◌, length, length-append, get_or, take, refl, sym, ap, subst, ◌∙◌, arith, append_assoc}
use Rattle.std.specs.Fmt.{decimal}
use Rattle.std.specs.Int.{IsInRange}
use Rattle.std.specs.Str.Parse.{AllDigits, digits_value}
use Rattle.std.proofs.lemmas.List.{take_at}
use Rattle.std.proofs.lemmas.Str.Parse.{digits_value-take-le, digit_at}
use Rattle.std.proofs.lemmas.Fmt.{decimal_is_IsNumeral, decimal_nonempty, first_decimal, decimal_digit, decimal_step}

-- a number's digits are digits
pub digits-decimal : (n : ℕ) → n < 2 ^ 64 → AllDigits 10 (decimal n)
digits-decimal n h = (decimal_is_IsNumeral n h).0.1

-- and give the number back
pub value-decimal : (n : ℕ) → n < 2 ^ 64 → digits_value 10 (decimal n) ≡ n
value-decimal n h = (decimal_is_IsNumeral n h).1

-- one digit more
pub decimal-more : (v c : ℕ) → 1 ≤ v → IsInRange 48 57 c → 10 * v + (c - 48) < 2 ^ 64 → decimal (10 * v + (c - 48)) ≡ decimal v ++ c ∷ []
decimal-more v c some digit h =
    let front : (10 * v + (c - 48)) / 10 ≡ v = omega arith in
    let last : 48 + (10 * v + (c - 48)) % 10 ≡ c = omega arith in
    decimal_step (10 * v + (c - 48)) (omega arith) h ∙ ap (λ n. decimal n ++ (48 + (10 * v + (c - 48)) % 10) ∷ []) front ∙ ap (λ d. decimal v ++ d ∷ []) last

-- how two lists that go on agree
pub meet : (xs ys x y : List ℕ) (c s : ℕ) → xs ++ c ∷ x ≡ ys ++ s ∷ y →
    ((xs ≡ ys) × (c ≡ s) × (x ≡ y)) ⊎ (((z : List ℕ) × (ys ≡ xs ++ c ∷ z)) ⊎ ((z : List ℕ) × (xs ≡ ys ++ s ∷ z)))
meet [] [] x y c s e = inl (refl, cc, cc)
meet [] (b ∷ ys) x y c s e = inr (inl (ys, cc))
meet (a ∷ xs) [] x y c s e = inr (inr (xs, cc))
meet (a ∷ xs) (b ∷ ys) x y c s e =
    let rest : xs ++ c ∷ x ≡ ys ++ s ∷ y = cc in
    let head : a ≡ b = cc in
    elim (meet xs ys x y c s rest) [
      | inl same ↦ inl (cc, same.1, same.2)
      | inr other ↦ elim other [
        | inl longer ↦ inr (inl (longer.0, cc))
        | inr shorter ↦ inr (inr (shorter.0, cc))
      ]
    ]

-- a byte among digits is one
digit-within : (xs z : List ℕ) (c : ℕ) → AllDigits 10 (xs ++ c ∷ z) → IsInRange 48 57 c
digit-within [] z c all = digit_at (c ∷ z) 0 all (omega arith)
digit-within (x ∷ xs) z c all = digit-within xs z c all.1

-- what the digits of a number and a byte below them begin with, if it is digits and then any byte
pub digits-meet : (v n c s : ℕ) (x y : List ℕ) → v < 2 ^ 64 → s < 48 → decimal v ++ c ∷ x ≡ decimal n ++ s ∷ y →
    ((decimal v ≡ decimal n) × (c ≡ s) × (x ≡ y)) ⊎ ((z : List ℕ) × (decimal n ≡ decimal v ++ c ∷ z))
digits-meet v n c s x y small below e =
    elim (meet (decimal v) (decimal n) x y c s e) [
      | inl same ↦ inl same
      | inr other ↦ elim other [
        | inl longer ↦ inr longer
        | inr shorter ↦ let all : AllDigits 10 (decimal n ++ s ∷ shorter.0) = subst (AllDigits 10) shorter.1 (digits-decimal v small) in
            let digit = digit-within (decimal n) shorter.0 s all in absurd (omega arith)
      ]
    ]

-- the same without digits in front
pub digit-meet : (n c s : ℕ) (x y : List ℕ) → n < 2 ^ 64 → c ∷ x ≡ decimal n ++ s ∷ y → (z : List ℕ) × (decimal n ≡ c ∷ z)
digit-meet n c s x y small e =
    elim (meet [] (decimal n) x y c s e) [
      | inl same ↦ let some = decimal_nonempty n small in let none = ap length same.0 in absurd (omega arith)
      | inr other ↦ elim other [
        | inl longer ↦ longer
        | inr shorter ↦ absurd (let none = ap length shorter.1 in omega (arith, none, length-append (decimal n) (s ∷ shorter.0)))
      ]
    ]

-- a number whose digits begin with a byte
pub begins-digit : (n c : ℕ) (z : List ℕ) → n < 2 ^ 64 → decimal n ≡ c ∷ z → IsInRange 48 57 c
begins-digit n c z small e = digit-within [] z c (subst (AllDigits 10) e (digits-decimal n small))

-- no number but 0 begins with the digit 0
pub begins-zero : (n : ℕ) (z : List ℕ) → 1 ≤ n → n < 2 ^ 64 → decimal n ≡ 48 ∷ z → ⊥
begins-zero n z some small e = let first = first_decimal n (omega arith) small in let zero = ap (λ xs. get_or xs 0 0) e in omega (arith, zero)

-- no number's digits begin with 0 and then a byte
begins-zero-more : (n c : ℕ) (z : List ℕ) → n < 2 ^ 64 → decimal n ≡ 48 ∷ c ∷ z → ⊥
begins-zero-more zero c z small e = let one = ap length (sym (decimal_digit zero (omega arith)) ∙ e) in omega (arith, one)
begins-zero-more (suc n) c z small e = begins-zero (suc n) (c ∷ z) (omega arith) small e

some-front : (v n c : ℕ) (z : List ℕ) → n < 2 ^ 32 → decimal n ≡ decimal v ++ c ∷ z → 1 ≤ v
some-front zero n c z less e = absurd (begins-zero-more n c z (omega arith) (e ∙ ap (λ xs. xs ++ c ∷ z) (decimal_digit zero (omega arith))))
some-front (suc v) n c z less e = omega arith

-- a number whose digits begin with those of another one and a byte
pub begins-more : (v n c : ℕ) (z : List ℕ) → v < 2 ^ 32 → n < 2 ^ 32 → decimal n ≡ decimal v ++ c ∷ z → IsInRange 48 57 c × (1 ≤ v) × (10 * v + (c - 48) ≤ n)
begins-more v n c z small less e =
    let all : AllDigits 10 (decimal v ++ c ∷ z) = subst (AllDigits 10) e (digits-decimal n (omega arith)) in
    let digit : IsInRange 48 57 c = digit-within (decimal v) z c all in
    let some : 1 ≤ v = some-front v n c z less e in
    let more : decimal (10 * v + (c - 48)) ≡ decimal v ++ c ∷ [] = decimal-more v c some digit (omega arith) in
    let front : take (length (decimal v ++ c ∷ [])) (decimal n) ≡ decimal v ++ c ∷ [] =
    ap (take (length (decimal v ++ c ∷ []))) (e ∙ sym (append_assoc (decimal v) (c ∷ []) z)) ∙ take_at (decimal v ++ c ∷ []) z _ refl
    in
    let at_most = digits_value-take-le 10 (decimal n) (length (decimal v ++ c ∷ [])) (omega arith) in
    let is : digits_value 10 (take (length (decimal v ++ c ∷ [])) (decimal n)) ≡ 10 * v + (c - 48) =
    ap (digits_value 10) (front ∙ sym more) ∙ value-decimal (10 * v + (c - 48)) (omega arith)
    in
    let whole = value-decimal n (omega arith) in
    (digit, some, omega (arith, at_most, is, whole))

-- a digit alone
pub one-digit : (c n : ℕ) → IsInRange 48 57 c → n ≡ c - 48 → (n < 10) × (decimal n ≡ c ∷ [])
one-digit c n digit is =
    let same : 48 + n ≡ c = omega (arith, digit.0) in
    (omega (arith, digit.1), decimal_digit n (omega (arith, digit.1)) ∙ ap (λ b. b ∷ []) same)

-- the digit 0
pub zero-digit : (n c : ℕ) → n ≡ 0 → decimal n ≡ c ∷ [] → c ≡ 48
zero-digit n c none e = ap (λ xs. get_or xs 0 0) (sym e ∙ ap decimal none ∙ decimal_digit 0 (omega arith))
