-- What a table of rows is, and which row a key has.
use Rattle.std.specs.Prelude.{suc, slice_get, option_and_then, ◌≡◌, ◌≢◌, ◌<◌, slice_index_or, ℕ, Bool, true, ◌&&◌, ◌==◌, List, [], ◌∷◌, length, Option, None, Some, if◌then◌else◌}
use Rattle.std.specs.List.{list_all}
use Rattle.std.specs.Ordering.{is_lt, nat_cmp}
use Rattle.std.specs.Cmp.Lexicographic.{slice_cmp}
use Rattle.std.specs.Option.{option_map}
use Rattle.std.specs.Str.{bytes_eq}
use Rattle.tx_prims.specs.declared.TableRow.{TableRow}
use Rattle.tx_prims.specs.Keys.{text_of, is_text}

-- one text comes before another in the order of bytes
abbrev pub is_before : List ℕ → List ℕ → Bool
is_before text other = is_lt (slice_cmp nat_cmp text other)

-- the text of each key comes before that of the next
abbrev pub are_rising : {R : Type 0} → List (TableRow R) → Bool
are_rising [] = true
are_rising (row ∷ []) = true
are_rising (row ∷ next ∷ rows) = is_before (text_of row.key) (text_of next.key) && are_rising (next ∷ rows)

-- a table of this many rows: each key is a text, and the texts rise
abbrev pub is_lawful : {R : Type 0} → ℕ → List (TableRow R) → Bool
is_lawful count rows = length rows == count && list_all (λ row. is_text row.key) rows && are_rising rows

-- the row of a key
abbrev pub row_of : {R : Type 0} → List ℕ → List (TableRow R) → Option R
row_of key [] = None
row_of key (row ∷ rows) = if bytes_eq (text_of row.key) key then Some row.row else row_of key rows

-- the place of a key's row
abbrev pub place_of : {R : Type 0} → List ℕ → List (TableRow R) → Option ℕ
place_of key [] = None
place_of key (row ∷ rows) = if bytes_eq (text_of row.key) key then Some 0 else option_map suc (place_of key rows)

-- the row at a place
abbrev pub row_at : {R : Type 0} → ℕ → List (TableRow R) → Option R
row_at place rows = option_map (λ row. row.row) (slice_get rows place)

-- each row stands at the place of its key and is the only one with that key, any other key has no
-- place, and the row of a key is the row at its place
pub record EachKeyHasItsRow {R : Type 0} (rows : List (TableRow R)) : Type 0 where
  pub present : (key : List ℕ) (k : ℕ) → k < length rows → ((d : TableRow R) → text_of (slice_index_or rows k d).key ≡ key) → place_of key rows ≡ Some k
  pub once : (j k : ℕ) (d : TableRow R) → j < length rows → k < length rows → text_of (slice_index_or rows j d).key ≡ text_of (slice_index_or rows k d).key → j ≡ k
  pub absent : (key : List ℕ) → ((k : ℕ) (d : TableRow R) → k < length rows → text_of (slice_index_or rows k d).key ≢ key) → place_of key rows ≡ None
  pub row : (key : List ℕ) → row_of key rows ≡ option_and_then (λ k. row_at k rows) (place_of key rows)
