-- The text that the loop over the decimals has made so far.
use Rattle.std.proofs.Common.{◌≡◌, ℕ, suc, ◌+◌, ◌-◌, ◌*◌, ◌/◌, ◌%◌, ◌<◌, ◌≤◌, List, [], ◌∷◌, ◌++◌, map, cond, leb, refl, arith, append_assoc, append-nil, ◌∙◌, sym}
use Rattle.std.proofs.lemmas.Bool.{le-leb, lt-leb}
use Rattle.tx_num.specs.Decimals.{decimals_below, to_last_digit}

-- one digit, and the rest, if there is one
decimals_below-more : (counter s delta top : ℕ) → counter < 5 → top ≡ to_last_digit s delta →
    decimals_below (5 - counter) s delta
    ≡ top / 65536 ∷ cond (leb (10 * (top % 65536)) (10 * delta)) [] (decimals_below (5 - (counter + 1)) (10 * (top % 65536)) (10 * delta))
unfolding decimals_below
decimals_below-more counter s delta top low is_top =
    let e : 5 - counter ≡ suc (5 - (counter + 1)) = omega arith in rw (is_top, e) refl

abbrev IsText : List ℕ → List ℕ → List ℕ → Type 0
IsText before digits target = before ++ map (λ digit. 48 + digit) digits ≡ target

-- a digit was appended, and the other decimals are still to come
pub text_next : (before after target : List ℕ) (counter s delta top : ℕ) → counter < 5 → top ≡ to_last_digit s delta →
    10 * delta < 10 * (top % 65536) → IsText before (decimals_below (5 - counter) s delta) target → after ≡ before ++ (48 + top / 65536) ∷ [] →
    IsText after (decimals_below (5 - (counter + 1)) (10 * (top % 65536)) (10 * delta)) target
text_next before after target counter s delta top low is_top next text appended =
    let all = rw (lt-leb _ _ next) at (decimals_below-more counter s delta top low is_top) in
    rw appended (append_assoc before ((48 + top / 65536) ∷ []) _ ∙ (rw all at text))

-- the last digit was appended
pub text_last : (before after target : List ℕ) (counter s delta top : ℕ) → counter < 5 → top ≡ to_last_digit s delta →
    10 * (top % 65536) ≤ 10 * delta → IsText before (decimals_below (5 - counter) s delta) target → after ≡ before ++ (48 + top / 65536) ∷ [] →
    after ≡ target
text_last before after target counter s delta top low is_top last text appended =
    let all = rw (le-leb _ _ last) at (decimals_below-more counter s delta top low is_top) in
    appended ∙ (rw all at text)

-- all five digits were appended
pub text_full : (text target : List ℕ) (counter s delta : ℕ) → 5 ≤ counter → IsText text (decimals_below (5 - counter) s delta) target → text ≡ target
unfolding decimals_below
text_full text target counter s delta full is_text =
    let e : 5 - counter ≡ 0 = omega arith in sym (append-nil text) ∙ (rw e at is_text)
