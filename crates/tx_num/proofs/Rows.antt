-- Worked rows of the definitions.
use Rattle.std.proofs.Common.{◌≡◌, [], ◌∷◌, refl}
use Rattle.std.specs.Prelude.{pos, negsuc}
use Rattle.tx_num.specs.Badness.{badness}
use Rattle.tx_num.specs.Fractions.{part}
use Rattle.tx_num.specs.Decimals.{decimals, decimals_below, round_digits}

as_much_as_there_is : badness (pos 65536) (pos 65536) ≡ 100
as_much_as_there_is = refl

twice_as_much : badness (pos 131072) (pos 65536) ≡ 800
twice_as_much = refl

half_up : part (record { num = pos 1; den = pos 2 }) (pos 3) ≡ pos 2
half_up = refl

half_down : part (record { num = pos 1; den = pos 2 }) (negsuc 2) ≡ negsuc 1
half_down = refl

third : decimals 21845 ≡ 3 ∷ 3 ∷ 3 ∷ 3 ∷ 3 ∷ []
unfolding decimals_below
third = refl

third_back : round_digits (3 ∷ 3 ∷ 3 ∷ 3 ∷ 3 ∷ []) ≡ 21845
third_back = refl

tenth : decimals 6554 ≡ 1 ∷ []
unfolding decimals_below
tenth = refl

last : decimals 65535 ≡ 9 ∷ 9 ∷ 9 ∷ 9 ∷ 8 ∷ []
unfolding decimals_below
last = refl
