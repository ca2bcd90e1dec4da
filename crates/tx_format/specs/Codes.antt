-- The codes of bytes. The TeXbook, chapters 7, 12 and 17.
use Rattle.std.specs.Prelude.{ℕ, ℤ, pos, negsuc, ◌+◌, ◌-◌, ◌==◌, ◌&&◌, ◌||◌, nat_le, Bool, if◌then◌else◌}
use Rattle.tx_format.specs.declared.preset.Preset.{Preset}
use Rattle.tx_format.specs.Presets.{by_preset}

-- a byte from one to another, both included
abbrev pub is_between : ℕ → ℕ → ℕ → Bool
is_between first last byte = nat_le first byte && nat_le byte last

abbrev pub is_capital : ℕ → Bool
is_capital byte = is_between 65 90 byte

abbrev pub is_small : ℕ → Bool
is_small byte = is_between 97 122 byte

abbrev pub is_letter : ℕ → Bool
is_letter byte = is_capital byte || is_small byte

abbrev pub is_digit : ℕ → Bool
is_digit byte = is_between 48 57 byte

-- the category of a byte at the start
abbrev pub start_category : ℕ → ℕ
start_category byte =
    if byte == 92 then 0
    else if byte == 13 then 5
    else if byte == 0 then 9
    else if byte == 32 then 10
    else if is_letter byte then 11
    else if byte == 37 then 14
    else if byte == 127 then 15
    else 12

-- in BARE the bytes of plain texts have theirs too
abbrev pub bare_category : ℕ → ℕ
bare_category byte =
    if byte == 123 then 1
    else if byte == 125 then 2
    else if byte == 36 then 3
    else if byte == 38 then 4
    else if byte == 35 then 6
    else if byte == 94 then 7
    else if byte == 95 then 8
    else if byte == 9 then 10
    else start_category byte

abbrev pub category : Preset → ℕ → ℕ
category preset byte = by_preset (start_category byte) (bare_category byte) preset

-- the small and the capital letter of a letter
abbrev pub lower_case : ℕ → ℕ
lower_case byte = if is_capital byte then byte + 32 else if is_small byte then byte else 0

abbrev pub upper_case : ℕ → ℕ
upper_case byte = if is_small byte then byte - 32 else if is_capital byte then byte else 0

abbrev pub space_factor : ℕ → ℕ
space_factor byte = if is_capital byte then 999 else 1000

-- hexadecimal 7100 and the letter, 7000 and the digit
abbrev pub math_code : ℕ → ℕ
math_code byte = if is_letter byte then 28928 + byte else if is_digit byte then 28672 + byte else byte

abbrev pub delimiter_code : ℕ → ℤ
delimiter_code byte = if byte == 46 then pos 0 else negsuc 0
