-- The bytes of the log. *TeX: The Program*, part 5.
use Rattle.std.specs.Prelude.{ℕ, ℤ, pos, negsuc, ◌==◌, ◌+◌, ◌-◌, ◌/◌, ◌%◌, Bool, false, List, [], ◌∷◌, ◌++◌, nat_lt, ◌&&◌, nat_le, if◌then◌else◌}
use Rattle.std.specs.List.{flat_map}
use Rattle.tx_model.specs.Bytes.{newline}

-- a lower-case hex digit
abbrev pub hex_digit : ℕ → ℕ
hex_digit n = if nat_lt n 10 then 48 + n else 87 + n

-- the byte that \newlinechar names
abbrev pub is_newline_char : ℤ → ℕ → Bool
is_newline_char (pos n) b = n == b
is_newline_char (negsuc n) b = false

-- A byte from 32 to 126 prints as it is, another one as ^^ and the byte shifted by 64 below 128, or as
-- ^^ and two hex digits. The byte that \newlinechar names begins a new line.
abbrev pub printed_byte : ℤ → ℕ → List ℕ
printed_byte newline_char b =
    if is_newline_char newline_char b then newline ∷ []
    else if nat_le 32 b && nat_lt b 127 then b ∷ []
    else if nat_lt b 64 then 94 ∷ 94 ∷ (b + 64) ∷ []
    else if nat_lt b 128 then 94 ∷ 94 ∷ (b - 64) ∷ []
    else 94 ∷ 94 ∷ hex_digit (b / 16) ∷ hex_digit (b % 16) ∷ []

abbrev pub printed : ℤ → List ℕ → List ℕ
printed newline_char text = flat_map (printed_byte newline_char) text

-- a line of the log
abbrev pub log_line : ℤ → List ℕ → List ℕ
log_line newline_char text = printed newline_char text ++ newline ∷ []
