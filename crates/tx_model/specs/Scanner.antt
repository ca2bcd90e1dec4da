-- The tokens of a text. The TeXbook, chapter 8.
use Rattle.std.specs.Prelude.{ℕ, zero, suc, ◌+◌, ◌-◌, ◌*◌, ◌==◌, ◌&&◌, nat_le, nat_lt, ℤ, Bool, true, false, List, [], ◌∷◌, length, Option, Some, None, if◌then◌else◌}
use Rattle.tx_model.specs.declared.category.Cat.{Cat}
use Rattle.tx_model.specs.declared.category.Cat.TheVariants as cat
use Rattle.tx_model.specs.declared.category.LineState.{LineState}
use Rattle.tx_model.specs.declared.category.LineState.TheVariants.{NewLine, MidLine, SkippingBlanks}
use Rattle.tx_model.specs.Bytes.{blank}
use Rattle.tx_model.specs.Lines.{lines_of, line_end, begun, next_number}
use Rattle.tx_model.specs.Tokens.{Token, Char, Name, Active}

-- A rest of a text: the unread bytes of its line, its later lines, the number of its line, which is 0
-- where none was begun, and the scanner's state.
pub record Rest : Type 0 where
  pub unread : List ℕ
  pub later : List (List ℕ)
  pub number : ℕ
  pub state : LineState

-- a text of which no line was begun
abbrev pub opened : List ℕ → Rest
opened text = record { unread = []; later = lines_of text; number = 0; state = NewLine }

-- what stands next in a line
pub data Found : Type 0 where
  -- this token, after which the scanner is in this state and these bytes are unread
  Finds : Token → LineState → List ℕ → Found
  -- nothing more
  LineUsed : Found
  -- an invalid byte, the first of these
  Stops : LineState → List ℕ → Found

abbrev pub is_superscript : Cat → Bool
is_superscript cat.Superscript = true
is_superscript _ = false

abbrev pub is_letter : Cat → Bool
is_letter cat.Letter = true
is_letter _ = false

abbrev pub is_space : Cat → Bool
is_space cat.Space = true
is_space _ = false

-- the value of a lower-case hex digit
abbrev pub hex_value : ℕ → Option ℕ
hex_value b =
    if nat_le 48 b && nat_le b 57 then Some (b - 48)
    else if nat_le 97 b && nat_le b 102 then Some (b - 87)
    else None

-- the byte that two such digits write
abbrev pub hex_byte : Option ℕ → Option ℕ → Option ℕ
hex_byte (Some high) (Some low) = Some (16 * high + low)
hex_byte _ _ = None

-- in the place of a byte below 128 stands that byte plus 64 if it is below 64, else minus 64
abbrev pub shifted : ℕ → List ℕ → Option (List ℕ)
shifted b bytes =
    if nat_lt b 64 then Some ((b + 64) ∷ bytes)
    else if nat_lt b 128 then Some ((b - 64) ∷ bytes)
    else None

-- in the place of two hex digits stands the byte that they write
abbrev pub by_digits : Option ℕ → ℕ → ℕ → List ℕ → Option (List ℕ)
by_digits (Some byte) b c bytes = Some (byte ∷ bytes)
by_digits None b c bytes = shifted b (c ∷ bytes)

-- what stands for the bytes after two equal superscripts, if they stand for a byte
abbrev pub after_superscripts : List ℕ → Option (List ℕ)
after_superscripts [] = None
after_superscripts (b ∷ []) = shifted b []
after_superscripts (b ∷ c ∷ bytes) = by_digits (hex_byte (hex_value b) (hex_value c)) b c bytes

-- The notation of a byte by two equal superscripts in front of a line: what stands for the line.
abbrev pub noted : (ℕ → Cat) → List ℕ → Option (List ℕ)
noted cats [] = None
noted cats (b ∷ []) = None
noted cats (b ∷ c ∷ bytes) = if is_superscript (cats b) && (b == c) then after_superscripts bytes else None

abbrev pub go_on : (List ℕ → List ℕ) → List ℕ → Option (List ℕ) → List ℕ
go_on again bytes None = bytes
go_on again bytes (Some line) = again line

-- the notation is applied again to its result, so many times at the most
abbrev pub fronted_within : ℕ → (ℕ → Cat) → List ℕ → List ℕ
fronted_within zero cats bytes = bytes
fronted_within (suc n) cats bytes = go_on (fronted_within n cats) bytes (noted cats bytes)

-- a line with the byte in front that the scanner reads there; no line has more notations than bytes
abbrev pub fronted : (ℕ → Cat) → List ℕ → List ℕ
fronted cats bytes = fronted_within (length bytes) cats bytes

-- a run of letters, and what follows it
pub record Run : Type 0 where
  pub letters : List ℕ
  pub behind : List ℕ

abbrev pub letters_at : (List ℕ → Run) → (ℕ → Cat) → List ℕ → Run
letters_at again cats [] = record { letters = []; behind = [] }
letters_at again cats (b ∷ bytes) =
    if is_letter (cats b) then record { letters = b ∷ (again bytes).letters; behind = (again bytes).behind }
    else record { letters = []; behind = b ∷ bytes }

-- the letters in front of a line, so many at the most
abbrev pub letters_within : ℕ → (ℕ → Cat) → List ℕ → Run
letters_within zero cats bytes = record { letters = []; behind = bytes }
letters_within (suc n) cats bytes = letters_at (letters_within n cats) cats (fronted cats bytes)

abbrev pub letters_in : (ℕ → Cat) → List ℕ → Run
letters_in cats bytes = letters_within (length bytes) cats bytes

-- A name that begins with this byte is a run of letters, after which blanks are skipped, or the byte alone.
abbrev pub name_from : (ℕ → Cat) → ℕ → List ℕ → Found
name_from cats b bytes =
    if is_letter (cats b) then Finds (Name (b ∷ (letters_in cats bytes).letters)) SkippingBlanks (letters_in cats bytes).behind
    else if is_space (cats b) then Finds (Name (b ∷ [])) SkippingBlanks bytes
    else Finds (Name (b ∷ [])) MidLine bytes

-- the name after an escape byte; one that ends its line has no bytes
abbrev pub name_at : (ℕ → Cat) → List ℕ → Found
name_at cats [] = Finds (Name []) MidLine []
name_at cats (b ∷ bytes) = name_from cats b bytes

-- the end of a line gives \par, a space or nothing, and the rest of the line is dropped
abbrev pub at_line_end : LineState → Found
at_line_end NewLine = Finds (Name (112 ∷ 97 ∷ 114 ∷ [])) NewLine []
at_line_end MidLine = Finds (Char cat.Space blank) NewLine []
at_line_end SkippingBlanks = LineUsed

-- what a byte of this category, which does not give nothing, and the bytes after it give
abbrev pub token_at : (ℕ → Cat) → LineState → Cat → ℕ → List ℕ → Found
token_at cats state cat.Escape b bytes = name_at cats (fronted cats bytes)
token_at cats state cat.LineEnd b bytes = at_line_end state
token_at cats state cat.Space b bytes = Finds (Char cat.Space blank) SkippingBlanks bytes
token_at cats state cat.Active b bytes = Finds (Active b) MidLine bytes
-- a comment drops the rest of the line
token_at cats state cat.Comment b bytes = LineUsed
token_at cats state cat.Invalid b bytes = Stops state (b ∷ bytes)
token_at cats state c b bytes = Finds (Char c b) MidLine bytes

-- a byte of this category gives nothing in this state, and leaves it
abbrev pub gives_nothing : LineState → Cat → Bool
gives_nothing state cat.Ignored = true
gives_nothing NewLine cat.Space = true
gives_nothing SkippingBlanks cat.Space = true
gives_nothing state _ = false

abbrev pub found_at : (List ℕ → Found) → (ℕ → Cat) → LineState → List ℕ → Found
found_at again cats state [] = LineUsed
found_at again cats state (b ∷ bytes) =
    if gives_nothing state (cats b) then again bytes else token_at cats state (cats b) b bytes

-- what stands next in a line, of which so many bytes give nothing at the most
abbrev pub found_within : ℕ → (ℕ → Cat) → LineState → List ℕ → Found
found_within zero cats state bytes = LineUsed
found_within (suc n) cats state bytes = found_at (found_within n cats state) cats state (fronted cats bytes)

-- what stands next in a line, by these categories
abbrev pub found_in : (ℕ → Cat) → LineState → List ℕ → Found
found_in cats state bytes = found_within (length bytes) cats state bytes

-- what stands next in a rest of a text
pub data Scanned : Type 0 where
  Gives : Token → Rest → Scanned
  -- the text has no further token
  Used : Rest → Scanned
  -- the rest begins with an invalid byte
  Halts : Rest → Scanned

-- where a line is used up, the next one is begun
abbrev pub scanned_from : (ℕ → Cat) → List ℕ → ℕ → Found → List (List ℕ) → Scanned
scanned_from cats ending number (Finds token state unread) later =
    Gives token (record { unread = unread; later = later; number = number; state = state })
scanned_from cats ending number (Stops state unread) later =
    Halts (record { unread = unread; later = later; number = number; state = state })
scanned_from cats ending number LineUsed [] =
    Used (record { unread = []; later = []; number = number; state = NewLine })
scanned_from cats ending number LineUsed (line ∷ later) =
    scanned_from cats ending (next_number number) (found_in cats NewLine (begun ending line)) later

-- what stands next, by these categories and this \endlinechar
unfoldable pub scanned : (ℕ → Cat) → ℤ → Rest → Scanned
scanned cats end rest = scanned_from cats (line_end end) rest.number (found_in cats rest.state rest.unread) rest.later
