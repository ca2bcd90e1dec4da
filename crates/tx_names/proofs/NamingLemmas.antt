-- A naming of a table: beyond the table, each number has a text that is longer than all of the table's and than those of lower numbers.
use Rattle.std.proofs.Common.{◌≡◌, ℕ, zero, suc, ◌+◌, ◌-◌, ◌≤◌, ◌<◌, ◌⊎◌, List, [], ◌∷◌, length, get_or, replicate, refl, sym, ◌∙◌, ap, inl, inr, arith}
use Rattle.std.proofs.lemmas.Bool.{cases_lt}
use Rattle.std.proofs.lemmas.List.{length-replicate}
use Rattle.tx_names.specs.Names.{Names, HasNumber, text_at, IsDistinct, Naming, KeepsApart, Agrees, NamingOf}

-- the bytes of all texts
total : List (List ℕ) → ℕ
total [] = 0
total (text ∷ texts) = length text + total texts

at_most_total : (texts : List (List ℕ)) (i : ℕ) → length (get_or texts i []) ≤ total texts
unfolding total
at_most_total [] i = omega arith
at_most_total (text ∷ texts) zero = omega arith
at_most_total (text ∷ texts) (suc i) = let h = at_most_total texts i in omega arith

-- the text of a number beyond the table
far_text : Names → ℕ → List ℕ
far_text names n = replicate (1 + total names.texts + n) 0

module _ (names : Names) where
  naming_by : (n : ℕ) → (n < names.first) ⊎ (names.first ≤ n) → (n < names.first + length names.texts) ⊎ (names.first + length names.texts ≤ n) → List ℕ
  naming_by n (inl below) _ = far_text names n
  naming_by n (inr above) (inl within) = text_at names n
  naming_by n (inr above) (inr beyond) = far_text names n

  naming_of : Naming
  naming_of n = naming_by n (cases_lt n names.first) (cases_lt n (names.first + length names.texts))

  -- a number is the table's or beyond it
  by_cases : (n : ℕ) (a : (n < names.first) ⊎ (names.first ≤ n)) (b : (n < names.first + length names.texts) ⊎ (names.first + length names.texts ≤ n)) →
      (HasNumber names n × (naming_by n a b ≡ text_at names n)) ⊎ ((HasNumber names n → ⊥) × (naming_by n a b ≡ far_text names n))
  unfolding naming_by
  by_cases n (inl below) b = inr ((λ h. absurd (omega arith)), refl)
  by_cases n (inr above) (inl within) = inl ((above, within), refl)
  by_cases n (inr above) (inr beyond) = inr ((λ h. absurd (omega arith)), refl)

  sides : (n : ℕ) → (HasNumber names n × (naming_of n ≡ text_at names n)) ⊎ ((HasNumber names n → ⊥) × (naming_of n ≡ far_text names n))
  unfolding naming_of
  sides n = by_cases n (cases_lt n names.first) (cases_lt n (names.first + length names.texts))

  length-far : (n : ℕ) → length (far_text names n) ≡ 1 + total names.texts + n
  unfolding far_text
  length-far n = length-replicate (1 + total names.texts + n) 0

  far_from : (n m : ℕ) → text_at names n ≡ far_text names m → ⊥
  far_from n m e =
      let short = at_most_total names.texts (n - names.first) in
      let long = length-far m in
      let same : length (text_at names n) ≡ length (far_text names m) = ap length e in
      absurd (omega arith)

  far_apart : (n m : ℕ) → far_text names n ≡ far_text names m → n ≡ m
  far_apart n m e =
      let long_n = length-far n in
      let long_m = length-far m in
      let same : length (far_text names n) ≡ length (far_text names m) = ap length e in
      omega arith

  keeps_apart : IsDistinct names → KeepsApart naming_of
  keeps_apart distinct n m same =
      elim (sides n) [
        | inl (has_n, is_n) ↦ elim (sides m) [
          | inl (has_m, is_m) ↦ distinct n m has_n has_m (sym is_n ∙ same ∙ is_m)
          | inr (_, is_m) ↦ absurd (far_from n m (sym is_n ∙ same ∙ is_m))
        ]
        | inr (_, is_n) ↦ elim (sides m) [
          | inl (_, is_m) ↦ absurd (far_from m n (sym is_m ∙ sym same ∙ is_n))
          | inr (_, is_m) ↦ far_apart n m (sym is_n ∙ same ∙ is_m)
        ]
      ]

  agrees_with : Agrees naming_of names
  agrees_with n has = elim (sides n) [ inl (_, is) ↦ is | inr (not_has, _) ↦ absurd (not_has has) ]

  -- distinct texts have a naming that keeps all numbers apart
  pub naming_from_distinct : IsDistinct names → NamingOf names
  naming_from_distinct distinct = record {
    naming = naming_of;
    apart = keeps_apart distinct;
    agrees = agrees_with;
  }
