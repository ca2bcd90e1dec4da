-- Names in the order in which they were made, and the latest first.
use Rattle.std.proofs.Common.{◌≡◌, ℕ, suc, ◌-◌, ◌<◌, ◌≤◌, ◌==◌, nat_eq, Bool, true, false, cond, ◌||◌, List, [], ◌∷◌, ◌++◌, length, get_or, take, drop, reverse, slice_get, Option, None, Some, is_some, sym, ◌∙◌, ap, refl, inl, inr, arith, true≢false}
use Rattle.std.specs.Map.{lookup}
use Rattle.std.proofs.Math.Seq.{take-suc, drop-append_seam}
use Rattle.std.proofs.lemmas.Bool.{cases_lt}
use Rattle.std.proofs.lemmas.Option.{get_or_from_slice_get}
use Rattle.std.proofs.lemmas.List.{reverse-append, length-reverse, take_all, take-append-drop, length-drop}
use Rattle.std.proofs.lemmas.List.Sorted.{list_any-IsPermutation, IsPermutation-reverse}
use Rattle.tx_input.specs.Owned.{Own, bytes_of, has_number}

-- the last entry comes first
pub reverse-last : {X : Type 0} (xs : List X) (x : X) → reverse (xs ++ x ∷ []) ≡ x ∷ reverse xs
reverse-last xs x = reverse-append xs (x ∷ [])

-- the bytes stand with the last entry
pub bytes-last : (entries : Own) (o : ℕ × ℕ) → Some o ≡ slice_get entries (length entries - 1) → o.1 ≡ bytes_of (reverse entries)
bytes-last [] o at = absurd (true≢false (ap is_some at))
bytes-last (e ∷ entries) o at =
    let all = e ∷ entries in
    let i = length all - 1 in
    let within : i < length all = omega arith in
    let whole : all ≡ take i all ++ get_or all i o ∷ [] = sym (take_all (suc i) all (omega arith)) ∙ take-suc all i o within in
    sym (ap (λ es. bytes_of (reverse es)) whole ∙ ap bytes_of (reverse-last (take i all) (get_or all i o)) ∙ ap (λ (x : ℕ × ℕ). x.1) (get_or_from_slice_get all i o o (sym at)))

-- a number is found in either order
pub found-any : (entries : Own) (n : ℕ) → is_some (lookup (nat_eq n) entries) ≡ has_number n entries
found-any [] n = refl
found-any (e ∷ entries) n = by (nat_eq n e.0) (found-any entries n)
  where
    by : (b : Bool) → is_some (lookup (nat_eq n) entries) ≡ has_number n entries → is_some (cond b (Some e.1) (lookup (nat_eq n) entries)) ≡ (b || has_number n entries)
    by true rest = refl
    by false rest = rest

pub has-reversed : (entries : Own) (n : ℕ) → has_number n entries ≡ has_number n (reverse entries)
has-reversed entries n = list_any-IsPermutation (λ o. n == o.0) entries (reverse entries) (IsPermutation-reverse entries)

pub absent-of : (o : Option ℕ) → is_some o ≡ false → o ≡ None
absent-of None e = refl
absent-of (Some n) e = absurd (true≢false e)

-- the first entries are the last ones of the other order
pub reverse-take : {X : Type 0} (k : ℕ) (xs : List X) → reverse (take k xs) ≡ drop (length (reverse xs) - k) (reverse xs)
reverse-take k xs = elim (cases_lt k (length xs)) [ inl less ↦ within less | inr more ↦ beyond more ]
  where
    within : k < length xs → reverse (take k xs) ≡ drop (length (reverse xs) - k) (reverse xs)
    within less =
        let back = drop k xs in
        let whole : reverse xs ≡ reverse back ++ reverse (take k xs) = ap reverse (sym (take-append-drop k xs)) ∙ reverse-append (take k xs) back in
        let len : length (reverse xs) - k ≡ length (reverse back) = omega (arith, length-reverse xs, length-reverse back, length-drop k xs) in
        sym (ap (λ n. drop n (reverse xs)) len ∙ ap (drop (length (reverse back))) whole ∙ drop-append_seam (reverse back) (reverse (take k xs)))

    beyond : length xs ≤ k → reverse (take k xs) ≡ drop (length (reverse xs) - k) (reverse xs)
    beyond more =
        let none : length (reverse xs) - k ≡ 0 = omega (arith, length-reverse xs) in
        ap reverse (take_all k xs more) ∙ sym (ap (λ n. drop n (reverse xs)) none)
