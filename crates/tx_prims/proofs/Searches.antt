-- Rows whose texts rise: what a search over them finds.
use Rattle.std.proofs.Common.{◌≡◌, ◌≢◌, ℕ, suc, zero, ◌+◌, ◌<◌, Bool, true, false, ◌&&◌, ◌==◌, List, [], ◌∷◌, length, get_or, Some, None, refl, sym, ap, ◌∙◌, subst, ⊎_elim, arith, add-one, Ordering}
use Rattle.std.specs.Prelude.{IsTrue, if◌then◌else◌, option_and_then}
use Rattle.std.specs.List.{IsAllAdjacentAnswer, HoldsAt, list_all}
use Rattle.std.specs.List.Sorted.{IsSortedBy, IsNonDecreasingBy, IsPartitionPoint}
use Rattle.std.specs.Option.{option_map}
use Rattle.std.specs.Ordering.{is_lt, nat_cmp, ordering_index, ordering_reverse}
use Rattle.std.specs.declared.cmp.Ordering.TheVariants.{Less, Equal, Greater}
use Rattle.std.specs.Cmp.Lexicographic.{slice_cmp}
use Rattle.std.specs.Str.{bytes_eq}
use Rattle.std.specs.FinMap.{nat_cmp-IsAntisymmetric, slice_cmp-IsAntisymmetric}
use Rattle.std.proofs.lemmas.Grind.{common_steps}
use Rattle.std.proofs.lemmas.Bool.{false≢true, cases_lt}
use Rattle.std.proofs.lemmas.Cmp.{nat_list_cmp_total, tied_itself}
use Rattle.std.proofs.lemmas.Slice.Eq.{bytes_eq-Decides}
use Rattle.std.proofs.lemmas.List.Sorted.{searchable_from_sorted}
use Rattle.tx_prims.specs.declared.TableRow.{TableRow}
use Rattle.tx_prims.specs.Keys.{text_of, is_text}
use Rattle.tx_prims.specs.Rows.{is_before, are_rising, is_lawful, row_of, row_at, place_of, EachKeyHasItsRow}

-- two texts tie only where they are equal
pub same_from_tie : (x y : List ℕ) → slice_cmp nat_cmp x y ≡ Equal → x ≡ y
same_from_tie = slice_cmp-IsAntisymmetric nat_cmp-IsAntisymmetric

-- of two texts only one comes before the other
pub is_before-back : (x y : List ℕ) → is_before x y ≡ true → is_before y x ≡ false
is_before-back x y h =
    rw (nat_list_cmp_total.antisymm y x) (
    elim (slice_cmp nat_cmp x y) as (λ o. is_lt o ≡ true → is_lt (ordering_reverse o) ≡ false) [
      | Less ↦ λ _. refl
      | Equal ↦ λ _. refl
      | Greater ↦ λ e. absurd (false≢true e)
    ] h
    )

less_from_before : (o : Ordering) → is_lt o ≡ true → o ≡ Less
less_from_before Less h = refl
less_from_before Equal h = absurd (false≢true h)
less_from_before Greater h = absurd (false≢true h)

-- a text does not come before itself
pub is_before-itself : (x : List ℕ) → is_before x x ≡ false
is_before-itself x = ap is_lt (tied_itself nat_list_cmp_total x)

pub is_before-trans : (x y z : List ℕ) → is_before x y ≡ true → is_before y z ≡ true → is_before x z ≡ true
is_before-trans x y z h k = ap is_lt (nat_list_cmp_total.trans x y z (less_from_before _ h) (less_from_before _ k))

and_left : (a b : Bool) → (a && b) ≡ true → a ≡ true
and_left true b h = refl
and_left false b h = absurd (false≢true h)

and_right : (a b : Bool) → (a && b) ≡ true → b ≡ true
and_right true b h = h
and_right false b h = absurd (false≢true h)

false_from_not : (b : Bool) → (b ≡ true → ⊥) → b ≡ false
false_from_not true h = absurd (h refl)
false_from_not false h = refl

-- a text that comes before another is another
bytes_eq-before : (x y : List ℕ) → is_before x y ≡ true → bytes_eq x y ≡ false
bytes_eq-before x y h =
    false_from_not (bytes_eq x y) (λ e. false≢true (sym (is_before-itself x) ∙ subst (λ z. is_before x z ≡ true) (sym ((bytes_eq-Decides x y).0 e)) h))

module _ {R : Type 0} where
  -- each row comes before the next, from a given one on
  AdjacentRise : Bool → List (TableRow R) → ℕ → Type 0
  AdjacentRise b rows k = (d : TableRow R) → b ≡ is_before (text_of (get_or rows k d).key) (text_of (get_or rows (k + 1) d).key)

  adjacent_tail : (b : Bool) (row : TableRow R) (rows : List (TableRow R)) (k : ℕ) → AdjacentRise b (row ∷ rows) (suc k) → AdjacentRise b rows k
  unfolding AdjacentRise
  adjacent_tail b row rows k h d = rw add-one (subst (λ n. b ≡ is_before (text_of (get_or (row ∷ rows) (suc k) d).key) (text_of (get_or (row ∷ rows) n d).key)) (add-one (suc k)) (h d))

  -- what `is_sorted_by` says where each neighbour comes before the next, and where one does not
  rising-all : (rows : List (TableRow R)) → ((k : ℕ) → k + 1 < length rows → AdjacentRise true rows k) → are_rising rows ≡ true
  unfolding AdjacentRise
  rising-all [] h = refl
  rising-all (row ∷ []) h = refl
  rising-all (row ∷ next ∷ rows) h =
      let first : is_before (text_of row.key) (text_of next.key) ≡ true = sym (h 0 (omega arith) row) in
      rw (first, rising-all (next ∷ rows) (λ k lt. adjacent_tail true row (next ∷ rows) k (h (suc k) (omega arith)))) refl

  rising-fails : (rows : List (TableRow R)) (k : ℕ) → k + 1 < length rows → AdjacentRise false rows k → are_rising rows ≡ false
  unfolding AdjacentRise
  rising-fails [] k lt h = absurd (omega arith)
  rising-fails (row ∷ []) k lt h = absurd (omega arith)
  rising-fails (row ∷ next ∷ rows) zero lt h = rw (← (h row)) refl
  rising-fails (row ∷ next ∷ rows) (suc k) lt h =
      let rest : are_rising (next ∷ rows) ≡ false = rising-fails (next ∷ rows) k (omega arith) (adjacent_tail false row (next ∷ rows) k h) in
      grind (arith, common_steps)

  pub rising-answer : (rows : List (TableRow R)) (r : Bool) → IsAllAdjacentAnswer (λ x y b. b ≡ is_before (text_of x.key) (text_of y.key)) rows r → r ≡ are_rising rows
  unfolding AdjacentRise
  rising-answer rows true h = sym (rising-all rows (λ k lt d. h k d lt))
  rising-answer rows false (k, lt, h) = sym (rising-fails rows k lt h)

  rising_tail : (row : TableRow R) (rows : List (TableRow R)) → are_rising (row ∷ rows) ≡ true → are_rising rows ≡ true
  rising_tail row [] h = refl
  rising_tail row (next ∷ rows) h = and_right (is_before (text_of row.key) (text_of next.key)) (are_rising (next ∷ rows)) h

  rising_head : (row next : TableRow R) (rows : List (TableRow R)) → are_rising (row ∷ next ∷ rows) ≡ true → is_before (text_of row.key) (text_of next.key) ≡ true
  rising_head row next rows h = and_left (is_before (text_of row.key) (text_of next.key)) (are_rising (next ∷ rows)) h

  -- the first row comes before each other row
  first_before : (row : TableRow R) (rows : List (TableRow R)) (k : ℕ) (d : TableRow R) → are_rising (row ∷ rows) ≡ true → k < length rows → is_before (text_of row.key) (text_of (get_or rows k d).key) ≡ true
  first_before row [] k d h lt = absurd (omega arith)
  first_before row (next ∷ rows) zero d h lt = rising_head row next rows h
  first_before row (next ∷ rows) (suc k) d h lt =
      is_before-trans (text_of row.key) (text_of next.key) (text_of (get_or rows k d).key) (rising_head row next rows h) (first_before next rows k d (rising_tail row (next ∷ rows) h) (omega arith))

  -- no row is less than the one before it
  rising_sorted : (rows : List (TableRow R)) → are_rising rows ≡ true → IsSortedBy (λ x y. is_before (text_of x.key) (text_of y.key)) rows
  rising_sorted [] h k d low high = absurd (omega arith)
  rising_sorted (row ∷ rows) h zero d low high = rw add-one (is_before-back (text_of row.key) (text_of (get_or rows 0 d).key) (first_before row rows 0 d h (omega arith)))
  rising_sorted (row ∷ rows) h (suc k) d low high =
      let rest : is_before (text_of (get_or rows (suc k) d).key) (text_of (get_or rows k d).key) ≡ false =
      subst (λ n. is_before (text_of (get_or rows n d).key) (text_of (get_or rows k d).key) ≡ false) (add-one k) (rising_sorted rows (rising_tail row rows h) k d (omega arith) (omega arith))
      in subst (λ n. is_before (text_of (get_or (row ∷ rows) n d).key) (text_of (get_or rows k d).key) ≡ false) (sym (add-one (suc k))) rest

  -- the premise of a binary search
  pub rising-searchable : (rows : List (TableRow R)) (key : List ℕ) → are_rising rows ≡ true → IsNonDecreasingBy (λ row. ordering_index (slice_cmp nat_cmp (text_of row.key) key)) rows
  rising-searchable rows key h = searchable_from_sorted nat_list_cmp_total (λ row. text_of row.key) rows key (rising_sorted rows h)

  -- the place of a row is the place of its key
  place_of-at : (rows : List (TableRow R)) (k : ℕ) (key : List ℕ) → are_rising rows ≡ true → k < length rows → ((d : TableRow R) → text_of (get_or rows k d).key ≡ key) → place_of key rows ≡ Some k
  place_of-at [] k key h lt same = absurd (omega arith)
  place_of-at (row ∷ rows) zero key h lt same = rw ((bytes_eq-Decides (text_of row.key) key).1 (same row)) refl
  place_of-at (row ∷ rows) (suc k) key h lt same =
      let other : bytes_eq (text_of row.key) key ≡ false =
      subst (λ z. bytes_eq (text_of row.key) z ≡ false) (same row) (bytes_eq-before (text_of row.key) (text_of (get_or rows k row).key) (first_before row rows k row h (omega arith)))
      in rw other (ap (option_map suc) (place_of-at rows k key (rising_tail row rows h) (omega arith) same))

  -- a key that no row has
  pub place_of-absent : (rows : List (TableRow R)) (key : List ℕ) → ((k : ℕ) (d : TableRow R) → k < length rows → text_of (get_or rows k d).key ≢ key) → place_of key rows ≡ None
  place_of-absent [] key h = refl
  place_of-absent (row ∷ rows) key h =
      let other : bytes_eq (text_of row.key) key ≡ false = false_from_not (bytes_eq (text_of row.key) key) (λ e. h 0 row (omega arith) ((bytes_eq-Decides (text_of row.key) key).0 e)) in
      rw other (ap (option_map suc) (place_of-absent rows key (λ k d lt. h (suc k) d (omega arith))))

  -- the row of a key is the row at its place
  pub row_of-place_of : (rows : List (TableRow R)) (key : List ℕ) → row_of key rows ≡ option_and_then (λ k. row_at k rows) (place_of key rows)
  row_of-place_of [] key = refl
  row_of-place_of (row ∷ rows) key =
      elim (bytes_eq (text_of row.key) key) as (λ b. (if b then Some row.row else row_of key rows) ≡ option_and_then (λ k. row_at k (row ∷ rows)) (if b then Some 0 else option_map suc (place_of key rows))) [
        | true ↦ refl
        | false ↦ row_of-place_of rows key ∙ (elim (place_of key rows) as (λ o. option_and_then (λ k. row_at k rows) o ≡ option_and_then (λ k. row_at k (row ∷ rows)) (option_map suc o)) [ None ↦ refl | Some k ↦ refl ])
      ]

  -- what a binary search for a key says
  pub place_of-found : (rows : List (TableRow R)) (k : ℕ) (key : List ℕ) → are_rising rows ≡ true → k < length rows → HoldsAt (λ row. slice_cmp nat_cmp (text_of row.key) key ≡ Equal) rows k → place_of key rows ≡ Some k
  place_of-found rows k key h lt tie = place_of-at rows k key h lt (λ d. same_from_tie (text_of (get_or rows k d).key) key (tie d))

  pub place_of-not_found : (rows : List (TableRow R)) (k : ℕ) (key : List ℕ) → are_rising rows ≡ true → (IsNonDecreasingBy (λ row. ordering_index (slice_cmp nat_cmp (text_of row.key) key)) rows → IsPartitionPoint (λ row. slice_cmp nat_cmp (text_of row.key) key ≡ Less) (λ row. slice_cmp nat_cmp (text_of row.key) key ≡ Greater) rows k) → place_of key rows ≡ None
  place_of-not_found rows k key h parts =
      place_of-absent rows key (λ i d lt same.
      let tie : slice_cmp nat_cmp (text_of (get_or rows i d).key) key ≡ Equal = subst (λ z. slice_cmp nat_cmp z key ≡ Equal) (sym same) (tied_itself nat_list_cmp_total key) in
      let split = parts (rising-searchable rows key h) in
      ⊎_elim (λ below. let is : slice_cmp nat_cmp (text_of (get_or rows i d).key) key ≡ Less = split.0 i d (omega arith) below in cc)
      (λ above. let is : slice_cmp nat_cmp (text_of (get_or rows i d).key) key ≡ Greater = split.1 i d above lt in cc)
      (cases_lt i k))

  pub rising_of_lawful : (n : ℕ) (rows : List (TableRow R)) → IsTrue (is_lawful n rows) → are_rising rows ≡ true
  rising_of_lawful n rows h = and_right (length rows == n && list_all (λ row. is_text row.key) rows) (are_rising rows) h

  -- two rows of one text are one row
  place-one : (rows : List (TableRow R)) (j k : ℕ) (d : TableRow R) → are_rising rows ≡ true → j < length rows → k < length rows → text_of (get_or rows j d).key ≡ text_of (get_or rows k d).key → j ≡ k
  place-one [] j k d h low high same = absurd (omega arith)
  place-one (row ∷ rows) zero zero d h low high same = refl
  place-one (row ∷ rows) zero (suc k) d h low high same =
      absurd (false≢true (sym (is_before-itself (text_of row.key)) ∙ subst (λ z. is_before (text_of row.key) z ≡ true) (sym same) (first_before row rows k d h (omega arith))))
  place-one (row ∷ rows) (suc j) zero d h low high same =
      absurd (false≢true (sym (is_before-itself (text_of row.key)) ∙ subst (λ z. is_before (text_of row.key) z ≡ true) same (first_before row rows j d h (omega arith))))
  place-one (row ∷ rows) (suc j) (suc k) d h low high same = ap suc (place-one rows j k d (rising_tail row rows h) (omega arith) (omega arith) same)

  -- a lawful table has exactly one row for each of its keys
  pub EachKeyHasItsRow-lawful : (n : ℕ) (rows : List (TableRow R)) → IsTrue (is_lawful n rows) → EachKeyHasItsRow rows
  EachKeyHasItsRow-lawful n rows h = record {
    present = λ key k lt same. place_of-at rows k key (rising_of_lawful n rows h) lt same;
    once = λ j k d low high same. place-one rows j k d (rising_of_lawful n rows h) low high same;
    absent = λ key none. place_of-absent rows key none;
    row = row_of-place_of rows;
  }
