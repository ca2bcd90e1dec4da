-- Hexadecimal digits as they are formatted, and as the definitions have them.
use Rattle.std.proofs.Common.{◌≡◌, ℕ, zero, suc, ◌/◌, ◌%◌, ◌^◌, ◌<◌, ◌≤◌, ◌==◌, nat_lt, true, false, List, [], ◌∷◌, ◌++◌, refl, sym, inl, inr, ◌∙◌, ap, arith, append_assoc, append-nil}
use Rattle.std.proofs.lemmas.Bool.{cases_lt}
use Rattle.std.proofs.lemmas.Bool.Decides.{nat_tests}
use Rattle.std.proofs.Math.Nat.{pow-suc}
use Rattle.std.specs.Fmt.{digits, digits_onto, digit_glyph}
use Rattle.tx_private.specs.Described.{capital_digit, hexadecimal, hexadecimal_within}

last : (j k n : ℕ) (onto : List ℕ) → n < 16 → digits_onto (suc j) 16 true n onto ≡ hexadecimal_within (suc k) n ++ onto
last j k n onto small =
    let same : n % 16 ≡ n = omega arith in
    let none : (n / 16 == 0) ≡ true = grind (arith, nat_tests) in
    let less : nat_lt n 16 ≡ true = grind (arith, nat_tests) in
    rw (none, less, same) refl

more : (j k n : ℕ) (onto : List ℕ) → 16 ≤ n → digits_onto (suc j) 16 true (n / 16) (digit_glyph true (n % 16) ∷ onto) ≡ hexadecimal_within (suc k) (n / 16) ++ digit_glyph true (n % 16) ∷ onto → digits_onto (suc (suc j)) 16 true n onto ≡ hexadecimal_within (suc (suc k)) n ++ onto
more j k n onto large e =
    let some : (n / 16 == 0) ≡ false = grind (arith, nat_tests) in
    let above : nat_lt n 16 ≡ false = grind (arith, nat_tests) in
    rw (some, above) (e ∙ sym (append_assoc (hexadecimal_within (suc k) (n / 16)) (capital_digit (n % 16) ∷ []) onto))

quotient : (j n : ℕ) → n < 16 ^ suc (suc j) → n / 16 < 16 ^ suc j
quotient j n fits = omega (arith, pow-suc 16 (suc j))

pub digits-hexadecimal : (j k n : ℕ) (onto : List ℕ) → n < 16 ^ suc j → n < 16 ^ suc k → digits_onto (suc j) 16 true n onto ≡ hexadecimal_within (suc k) n ++ onto
digits-hexadecimal zero k n onto fits room = last zero k n onto (omega arith)
digits-hexadecimal (suc j) zero n onto fits room = last (suc j) zero n onto (omega arith)
digits-hexadecimal (suc j) (suc k) n onto fits room =
    elim (cases_lt n 16) [
      | inl small ↦ last (suc j) (suc k) n onto small
      | inr large ↦ more j k n onto large (digits-hexadecimal j k (n / 16) (digit_glyph true (n % 16) ∷ onto) (quotient j n fits) (quotient k n room))
    ]

-- a number of sixteen bits
pub hexadecimal_is : (n : ℕ) → n < 2 ^ 16 → hexadecimal n ≡ 34 ∷ digits 16 true n
unfolding digits
hexadecimal_is n fits =
    let same = digits-hexadecimal 63 7 n [] (omega arith) (omega arith) in
    ap (λ l. 34 ∷ l) (sym (same ∙ append-nil (hexadecimal_within 8 n)))
