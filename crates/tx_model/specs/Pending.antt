-- The pending input: one flat list of single tokens and rests of texts. *TeX: The Program*, part 22.
use Rattle.std.specs.Prelude.{ℕ, ℤ, Bool, false, List, [], ◌∷◌, max}
use Rattle.tx_model.specs.declared.category.Cat.{Cat}
use Rattle.tx_model.specs.Tokens.{Token}
use Rattle.tx_model.specs.Scanner.{Rest, Scanned, Gives, Used, Halts, scanned}

pub data Member : Type 0 where
  -- a token, and whether it is marked as not to be expanded this once
  Single : Token → Bool → Member
  Text : Rest → Member

-- the first token of the pending input
pub data Next : Type 0 where
  -- this token, with its mark
  First : Token → Bool → List Member → Next
  -- there is none; what is left keeps the number of the last line
  Empty : List Member → Next
  -- an invalid byte stands first
  Blocked : List Member → Next

-- A text in which no token is left is dropped; the last one stays, for the number of its line.
unfoldable pub next : (ℕ → Cat) → ℤ → List Member → Next
next cats end [] = Empty []
next cats end (Single token marked ∷ members) = First token marked members
next cats end (Text rest ∷ members) = in_text (scanned cats end rest) (next cats end members)
  where
    after : Rest → List Member → Next → Next
    after used [] later = Empty (Text used ∷ [])
    after used (member ∷ more) later = later

    in_text : Scanned → Next → Next
    in_text (Gives token left) later = First token false (Text left ∷ members)
    in_text (Halts left) later = Blocked (Text left ∷ members)
    in_text (Used used) later = after used members later

-- The line that an error names: that of the innermost text. Before a first line is begun it is 1.
abbrev pub line_number : List Member → ℕ
line_number [] = 1
line_number (Single token marked ∷ members) = line_number members
line_number (Text rest ∷ members) = max rest.number 1
