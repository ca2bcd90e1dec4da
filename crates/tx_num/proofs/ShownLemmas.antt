-- The text of a dimension reads back as it.
use Rattle.std.proofs.Common.{◌≡◌, ℕ, ◌+◌, ◌/◌, ◌%◌, ◌<◌, ◌≤◌, List, [], ◌∷◌, map, refl, arith, ap, ◌∙◌}
use Rattle.std.specs.Prelude.{ℤ, unsigned_abs}
use Rattle.std.specs.Char.{digit_value}
use Rattle.std.specs.List.{AllByRecursion}
use Rattle.std.specs.Fmt.{decimal}
use Rattle.std.specs.Str.Parse.{AllDigits}
use Rattle.std.proofs.lemmas.Bool.Decides.{nat_tests}
use Rattle.std.proofs.lemmas.Fmt.{decimal_is_IsNumeral}
use Rattle.std.proofs.lemmas.List.Elements.{recursion_from_All}
use Rattle.std.proofs.Math.ListN.{length-map}
use Rattle.tx_num.specs.Ranges.{IsDimension}
use Rattle.tx_num.specs.Decimals.{decimals, round_digits}
use Rattle.tx_num.specs.Laws.{ReadsBack}
use Rattle.tx_num.proofs.DecimalsLemmas.{All-decimals, decimals_some, round_digits-decimals}

digit_value-byte : (digit : ℕ) → digit ≤ 9 → digit_value (48 + digit) ≡ digit
digit_value-byte digit small = grind (arith, nat_tests)

map-digit_value : (digits : List ℕ) → AllByRecursion (λ digit. digit ≤ 9) digits → map digit_value (map (λ digit. 48 + digit) digits) ≡ digits
map-digit_value [] are = refl
map-digit_value (digit ∷ digits) are = let head = digit_value-byte digit are.0 in let tail = map-digit_value digits are.1 in cc

AllDigits-bytes : (digits : List ℕ) → AllByRecursion (λ digit. digit ≤ 9) digits → AllDigits 10 (map (λ digit. 48 + digit) digits)
AllDigits-bytes [] are = tt
AllDigits-bytes (digit ∷ digits) are = (rw (digit_value-byte digit are.0) (omega (arith, are.0)), AllDigits-bytes digits are.1)

pub shown_sp-reads_back : (v : ℤ) → IsDimension v → ReadsBack v
shown_sp-reads_back v is_dimension =
    let size : ℕ = unsigned_abs v in
    let small : size % 65536 < 65536 = omega arith in
    let are = recursion_from_All (λ digit. digit ≤ 9) (decimals (size % 65536)) (All-decimals (size % 65536) small) in
    let numeral = decimal_is_IsNumeral (size / 65536) (omega arith) in
    record {
      whole = decimal (size / 65536);
      fraction = map (λ digit. 48 + digit) (decimals (size % 65536));
      text = refl;
      whole_digits = numeral.0;
      fraction_digits = (rw length-map (decimals_some (size % 65536)), AllDigits-bytes _ are);
      value =
          let fraction : round_digits (map digit_value (map (λ digit. 48 + digit) (decimals (size % 65536)))) ≡ size % 65536 =
          ap round_digits (map-digit_value (decimals (size % 65536)) are) ∙ round_digits-decimals (size % 65536) small in
          omega (arith, numeral.1, fraction);
    }
