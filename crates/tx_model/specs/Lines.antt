-- The lines of a text, and what of a line the scanner reads. The TeXbook, chapter 8.
use Rattle.std.specs.Prelude.{ℕ, ℤ, pos, negsuc, ◌==◌, ◌+◌, ◌-◌, ◌^◌, min, List, [], ◌∷◌, ◌++◌, nat_lt, if◌then◌else◌}
use Rattle.tx_model.specs.Bytes.{newline, blank}

-- a byte before the first of these lines
abbrev pub lengthen : ℕ → List (List ℕ) → List (List ℕ)
lengthen b [] = (b ∷ []) ∷ []
lengthen b (line ∷ lines) = (b ∷ line) ∷ lines

-- A text is cut at each byte 10. What follows the last one is a line where it has a byte.
abbrev pub lines_of : List ℕ → List (List ℕ)
lines_of [] = []
lines_of (b ∷ bytes) = if b == newline then [] ∷ lines_of bytes else lengthen b (lines_of bytes)

-- a byte before a line without blanks at its end
abbrev pub before_trimmed : ℕ → List ℕ → List ℕ
before_trimmed b [] = if b == blank then [] else b ∷ []
before_trimmed b (c ∷ line) = b ∷ c ∷ line

-- a line without the blanks, bytes 32, at its end
abbrev pub trimmed : List ℕ → List ℕ
trimmed [] = []
trimmed (b ∷ line) = before_trimmed b (trimmed line)

-- what \endlinechar appends to a line: a byte where it is one, else nothing
abbrev pub line_end : ℤ → List ℕ
line_end (pos n) = if nat_lt n 256 then n ∷ [] else []
line_end (negsuc n) = []

-- what the scanner reads of a line that it begins, where this is appended
abbrev pub begun : List ℕ → List ℕ → List ℕ
begun ending line = trimmed line ++ ending

-- lines are numbered from 1, and all from 2^31-1 on have that number
abbrev pub next_number : ℕ → ℕ
next_number n = min (n + 1) (2 ^ 31 - 1)
