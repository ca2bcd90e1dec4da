-- Names and their numbers.
use Rattle.std.specs.Prelude.{◌≡◌, ℕ, ◌+◌, ◌-◌, ◌≤◌, ◌<◌, List, [], ◌∷◌, ◌++◌, length, get_or, take, position, Option}
use Rattle.std.specs.Option.{option_map}
use Rattle.std.specs.Str.{bytes_eq}

-- a table: its texts, numbered in their order from `first`
pub record Names : Type 0 where
  pub first : ℕ
  pub texts : List (List ℕ)

abbrev pub HasNumber : Names → ℕ → Type 0
HasNumber names n = (names.first ≤ n) × (n < names.first + length names.texts)

-- the text with this number
abbrev pub text_at : Names → ℕ → List ℕ
text_at names n = get_or names.texts (n - names.first) []

-- the number of this text, if the table has it
abbrev pub number_of : Names → List ℕ → Option ℕ
number_of names text = option_map (λ place. names.first + place) (position (bytes_eq text) names.texts)

abbrev pub with_text : List ℕ → Names → Names
with_text text names = record { first = names.first; texts = names.texts ++ text ∷ [] }

-- the table of its first texts, so many or all
abbrev pub first_texts : ℕ → Names → Names
first_texts len names = record { first = names.first; texts = take len names.texts }

-- the new table has the texts of the old one, with the same numbers
abbrev pub Extends : Names → Names → Type 0
Extends old new = first_texts (length old.texts) new ≡ old

-- no text stands in it twice
abbrev pub IsDistinct : Names → Type 0
IsDistinct names = (n m : ℕ) → HasNumber names n → HasNumber names m → text_at names n ≡ text_at names m → n ≡ m

-- A naming gives each number a text.
abbrev pub Naming : Type 0
Naming = ℕ → List ℕ

-- it keeps different numbers apart
abbrev pub KeepsApart : Naming → Type 0
KeepsApart naming = (n m : ℕ) → naming n ≡ naming m → n ≡ m

-- it gives each number of the table its text
abbrev pub Agrees : Naming → Names → Type 0
Agrees naming names = (n : ℕ) → HasNumber names n → naming n ≡ text_at names n

-- a naming that keeps numbers apart and gives those of the table their texts
pub record NamingOf (names : Names) : Type 0 where
  pub naming : Naming
  pub apart : KeepsApart naming
  pub agrees : Agrees naming names
