-- The texts of a table and their numbers.
use Rattle.std.proofs.Common.{◌≡◌, ◌≢◌, ℕ, suc, ◌+◌, ◌-◌, ◌≤◌, ◌<◌, Bool, true, false, cond, eqb, nat_lt, List, [], ◌∷◌, ◌++◌, map, length, get_or, position, Option, Some, None, Result, Ok, Err, IfOk, OnOk, if◌then◌else◌, not, take, refl, sym, ◌∙◌, ap, subst, inl, inr, arith, length-append, ◌||◌}
use Rattle.std.specs.List.{prefix_len, position_or_len, list_any, AllByRecursion, AllZip, IsDistinct as Differ}
use Rattle.std.specs.Option.{option_map}
use Rattle.std.specs.Str.{bytes_eq}
use Rattle.std.proofs.lemmas.Bool.{cases_lt}
use Rattle.std.proofs.lemmas.Bool.Decides.{nat_tests}
use Rattle.std.proofs.lemmas.List.{length-map, map-append, length-take, take-take, take_all, take_at, take-map}
use Rattle.std.proofs.lemmas.List.Folds.{position_or_len_push}
use Rattle.std.proofs.lemmas.List.Sums.{prefix_len-le-length}
use Rattle.std.proofs.lemmas.List.Quantifiers.{position-Some}
use Rattle.std.proofs.lemmas.Map.Made.{AllPairs-from_IsDistinct}
use Rattle.std.proofs.lemmas.Slice.Eq.{bytes_eq-Decides}
use Rattle.indexmap.specs.IndexSet.{insert_key}
use Rattle.tx_names.specs.Names.{Names, HasNumber, text_at, number_of, with_text, first_texts, Extends, IsDistinct, Naming, Agrees}

-- the first place whose image passes a test
prefix_len-map : {X Y : Type 0} (f : X → Y) (p : Y → Bool) (xs : List X) → prefix_len p (map f xs) ≡ prefix_len (λ x. p (f x)) xs
prefix_len-map f p [] = refl
prefix_len-map f p (x ∷ xs) = ap (λ n. cond (p (f x)) (1 + n) 0) (prefix_len-map f p xs)

place_below : ℕ → ℕ → Option ℕ
place_below place len = cond (nat_lt place len) (Some place) None

position-map : {X Y : Type 0} (f : X → Y) (p : Y → Bool) (xs : List X) → position p (map f xs) ≡ position (λ x. p (f x)) xs
unfolding place_below
position-map f p xs =
    ap (λ n. place_below n (length (map f xs))) (prefix_len-map f (λ y. not (p y)) xs)
    ∙ ap (place_below (position_or_len (λ x. p (f x)) xs)) (length-map xs f)

-- elements whose images differ
all-map : {X Y : Type 0} (f : X → Y) (P : Y → Type 0) (xs : List X) → AllByRecursion (λ x. P (f x)) xs → AllByRecursion P (map f xs)
all-map f P [] h = h
all-map f P (x ∷ xs) h = (h.0, all-map f P xs h.1)

differ-map : {X Y : Type 0} (f : X → Y) (same : Y → Y → Bool) (xs : List X) → Differ (λ x y. same (f x) (f y)) xs → Differ same (map f xs)
unfolding Differ
differ-map f same [] h = h
differ-map f same (x ∷ xs) h = (all-map f (λ y. same (f x) y ≡ false) xs h.0, differ-map f same xs h.1)

-- texts that differ have different places
one_place : (texts : List (List ℕ)) → Differ bytes_eq texts →
    (i j : ℕ) → i < length texts → j < length texts → get_or texts i [] ≡ get_or texts j [] → i ≡ j
one_place texts differ i j within_i within_j same =
    let apart = AllPairs-from_IsDistinct bytes_eq-Decides texts differ in
    elim (cases_lt i j) [
      | inl before ↦ absurd (apart i j [] before within_j same)
      | inr behind ↦ elim (cases_lt j i) [
        | inl before ↦ absurd (apart j i [] before within_i (sym same))
        | inr behind2 ↦ omega arith
      ]
    ]

distinct_from_differ : (first : ℕ) (texts : List (List ℕ)) → Differ bytes_eq texts → IsDistinct (record { first = first; texts = texts })
distinct_from_differ first texts differ n m has_n has_m same =
    let e : n - first ≡ m - first = one_place texts differ (n - first) (m - first) (omega arith) (omega arith) same in
    omega arith

-- a text's number is one of the table's, and leads back to the text
some_place : (first n : ℕ) (place : Option ℕ) → option_map (λ i. first + i) place ≡ Some n → place ≡ Some (n - first) × (first ≤ n)
some_place first n (Some i) e =
    let is : first + i ≡ n = cc in
    let at : i ≡ n - first = omega arith in
    (ap Some at, omega arith)
some_place first n None e = cc

pub at_number : (names : Names) (text : List ℕ) (n : ℕ) → number_of names text ≡ Some n → HasNumber names n × (text_at names n ≡ text)
at_number names text n e =
    let place = some_place names.first n (position (bytes_eq text) names.texts) e in
    let found = position-Some (bytes_eq text) names.texts (n - names.first) [] place.0 in
    let above = place.1 in
    let within = found.0 in
    ((above, omega arith), sym ((bytes_eq-Decides text (text_at names n)).0 found.1))

below : (n m : ℕ) → n < m → nat_lt n m ≡ true
below n m h = grind (arith, nat_tests)

-- where no element passes a test
none_place : (n len : ℕ) → place_below n len ≡ None → len ≤ n
unfolding place_below
none_place n len e =
    elim (cases_lt n len) [
      | inl before ↦
          let bad : None ≡ Some n = sym e ∙ ap (λ b. cond b (Some n) None) (below n len before) in
          cc
      | inr behind ↦ behind
    ]

none_passes : {X : Type 0} (p : X → Bool) (xs : List X) → length xs ≤ position_or_len p xs → list_any p xs ≡ false
none_passes p [] h = refl
none_passes {X} p (x ∷ xs) h = by (p x) h (none_passes p xs)
  where
    by : (b : Bool) → suc (length xs) ≤ cond (not b) (1 + position_or_len p xs) 0 → (length xs ≤ position_or_len p xs → list_any p xs ≡ false) → (b || list_any p xs) ≡ false
    by true h rest = absurd (omega arith)
    by false h rest = rest (omega arith)

absent : {X : Type 0} (p : X → Bool) (xs : List X) → position p xs ≡ None → (list_any p xs ≡ false) × (position_or_len p xs ≡ length xs)
unfolding place_below
absent p xs e =
    let far = none_place (position_or_len p xs) (length xs) e in
    let near = prefix_len-le-length (λ x. not (p x)) xs in
    (none_passes p xs far, omega arith)

no_number_no_place : (first : ℕ) (place : Option ℕ) → option_map (λ i. first + i) place ≡ None → place ≡ None
no_number_no_place first None e = refl
no_number_no_place first (Some i) e = cc

-- clones whose images are the same
pub map-clones : {X Y : Type 0} (f : X → Y) (R : X → X → Type 0) → ((x y : X) → R x y → f y ≡ f x) → (xs ys : List X) → AllZip R xs ys → map f ys ≡ map f xs
map-clones f R same [] [] h = refl
map-clones f R same [] (y ∷ ys) h = absurd h
map-clones f R same (x ∷ xs) [] h = absurd h
map-clones f R same (x ∷ xs) (y ∷ ys) h = ap (λ z. z ∷ map f ys) (same x y h.0) ∙ ap (λ zs. f x ∷ zs) (map-clones f R same xs ys h.1)

-- What a table extends.
pub extends-itself : (names : Names) → Extends names names
extends-itself names = ap (λ (ts : List (List ℕ)). let t : Names = record { first = names.first; texts = ts } in t) (take_all (length names.texts) names.texts (omega arith))

pub extends-with-text : (names : Names) (text : List ℕ) → Extends names (with_text text names)
extends-with-text names text = ap (λ (ts : List (List ℕ)). let t : Names = record { first = names.first; texts = ts } in t) (take_at names.texts (text ∷ []) (length names.texts) refl)

pub extends-through : (old mid new : Names) → Extends old mid → Extends mid new → Extends old new
extends-through old mid new e f =
    let shorter : length old.texts ≤ length mid.texts = at-most (length old.texts) mid.texts old.texts (ap (λ t. t.texts) e) in
    let same : take (length old.texts) new.texts ≡ take (length old.texts) mid.texts = sym (take-take (length old.texts) (length mid.texts) new.texts shorter) ∙ ap (λ t. take (length old.texts) t.texts) f in
    ap (λ (ts : List (List ℕ)). let t : Names = record { first = new.first; texts = ts } in t) same
    ∙ ap (λ (n : ℕ). let t : Names = record { first = n; texts = take (length old.texts) mid.texts } in t) (ap (λ t. t.first) f)
    ∙ e
  where
    at-most : {X : Type 0} (n : ℕ) (xs ys : List X) → take n xs ≡ ys → length ys ≤ length xs
    at-most n xs ys e =
        let taken = length-take n xs in
        let len : length (take n xs) ≡ length ys = ap length e in
        omega arith

-- after a text was looked for, and joined where it wasn't there
pub extends-by-intern : (old new : Names) (text : List ℕ) → (number_of old text ≢ None → new ≡ old) → (number_of old text ≡ None → new ≡ with_text text old) → Extends old new
extends-by-intern old new text present absent = by-number (number_of old text) refl
  where
    by-number : (o : Option ℕ) → number_of old text ≡ o → Extends old new
    by-number None e = subst (Extends old) (sym (absent e)) (extends-with-text old text)
    by-number (Some n) e = subst (Extends old) (sym (present (λ none. cc))) (extends-itself old)

-- a table over elements that are seen through f
module _ {X : Type 0} (f : X → List ℕ) (first : ℕ) where
  abbrev table_of : List X → Names
  table_of xs = record { first = first; texts = map f xs }

  pub number_of-map : (xs : List X) (text : List ℕ) → number_of (table_of xs) text ≡ option_map (λ i. first + i) (position (λ x. bytes_eq text (f x)) xs)
  number_of-map xs text = ap (option_map (λ i. first + i)) (position-map f (bytes_eq text) xs)

  pub distinct-map : (xs : List X) → Differ (λ x y. bytes_eq (f x) (f y)) xs → IsDistinct (table_of xs)
  distinct-map xs differ = distinct_from_differ first (map f xs) (differ-map f bytes_eq xs differ)

  -- the first elements, and clones
  pub truncated : (len : ℕ) (xs new : List X) → new ≡ take len xs → table_of new ≡ first_texts len (table_of xs)
  truncated len xs new e = ap (λ (ts : List (List ℕ)). let t : Names = record { first = first; texts = ts } in t) (ap (map f) e ∙ sym (take-map f len xs))

  pub table-cloned : (R : X → X → Type 0) → ((x y : X) → R x y → f y ≡ f x) → (xs ys : List X) → AllZip R xs ys → table_of ys ≡ table_of xs
  table-cloned R same xs ys zip = ap (λ (ts : List (List ℕ)). let t : Names = record { first = first; texts = ts } in t) (map-clones f R same xs ys zip)

  -- an element with a new text goes last
  inserted_last : (xs : List X) (x : X) → number_of (table_of xs) (f x) ≡ None → insert_key (λ a b. bytes_eq (f a) (f b)) xs x ≡ xs ++ x ∷ []
  inserted_last xs x none =
      let no_place = no_number_no_place first (position (λ y. bytes_eq (f x) (f y)) xs) (sym (number_of-map xs (f x)) ∙ none) in
      ap (λ b. if b then xs else xs ++ x ∷ []) (absent (λ y. bytes_eq (f x) (f y)) xs no_place).0

  -- and its text joins the table
  pub table-joined : (xs new : List X) (x : X) (text : List ℕ) (names : Names) → table_of xs ≡ names → f x ≡ text → number_of names text ≡ None →
      new ≡ insert_key (λ a b. bytes_eq (f a) (f b)) xs x → table_of new ≡ with_text text names
  table-joined xs new x text names view_is is none inserted =
      let absent_here : number_of (table_of xs) (f x) ≡ None = ap (number_of (table_of xs)) is ∙ ap (λ n. number_of n text) view_is ∙ none in
      let joined : with_text (f x) (table_of xs) ≡ with_text text names = ap (λ t. with_text t (table_of xs)) is ∙ ap (with_text text) view_is in
      let texts : map f new ≡ map f xs ++ f x ∷ [] = ap (map f) (inserted ∙ inserted_last xs x absent_here) ∙ map-append f xs (x ∷ []) in
      ap (λ (ts : List (List ℕ)). let t : Names = record { first = first; texts = ts } in t) texts ∙ joined

-- a text that joins a table has the next number
module _ (names : Names) (text : List ℕ) where
  last_place : position_or_len (bytes_eq text) names.texts ≡ length names.texts → position_or_len (bytes_eq text) (names.texts ++ text ∷ []) ≡ length names.texts
  last_place e = by (position_or_len (bytes_eq text) names.texts) (bytes_eq text text) e ((bytes_eq-Decides text text).1 refl) (position_or_len_push (bytes_eq text) names.texts text)
    where
      by : (n : ℕ) (b : Bool) → n ≡ length names.texts → b ≡ true →
          position_or_len (bytes_eq text) (names.texts ++ text ∷ []) ≡ cond (eqb n (length names.texts)) (length names.texts + cond b 0 1) n →
          position_or_len (bytes_eq text) (names.texts ++ text ∷ []) ≡ length names.texts
      by n b e t push = grind (arith, nat_tests)

  number_of-joined : number_of names text ≡ None → number_of (with_text text names) text ≡ Some (names.first + length names.texts)
  number_of-joined none =
      let p = bytes_eq text in
      let place = position_or_len p (names.texts ++ text ∷ []) in
      let at_end : position_or_len p names.texts ≡ length names.texts = (absent p names.texts (no_number_no_place names.first (position p names.texts) none)).1 in
      let at : place ≡ length names.texts = last_place at_end in
      let len : length (names.texts ++ text ∷ []) ≡ length names.texts + 1 = length-append names.texts (text ∷ []) in
      let within : nat_lt place (length (names.texts ++ text ∷ [])) ≡ true = below place (length (names.texts ++ text ∷ [])) (omega arith) in
      ap (λ b. option_map (λ i. names.first + i) (cond b (Some place) None)) within ∙ ap (λ i. Some (names.first + i)) at

  pub number_of-result : {E : Type 0} (result : Result ℕ E) (new : Names) → number_of names text ≡ None →
      IfOk result (λ n. n ≡ names.first + length names.texts) → OnOk result (new ≡ with_text text names) → IfOk result (λ n. number_of new text ≡ Some n)
  number_of-result (Ok n) new none next joined = ap (λ table. number_of table text) joined ∙ number_of-joined none ∙ ap Some (sym next)
  number_of-result (Err e) new none next joined = tt

  pub agrees-known : (n : ℕ) → number_of names text ≡ Some n → (naming : Naming) → Agrees naming names → naming n ≡ text
  agrees-known n e naming agrees =
      let at = at_number names text n e in
      agrees n at.0 ∙ at.1
