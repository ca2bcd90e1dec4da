-- Tokens as TeX prints them. *TeX: The Program*, part 20.
use Rattle.std.specs.Prelude.{ℕ, ℤ, pos, negsuc, Bool, true, false, List, [], ◌∷◌, ◌++◌, nat_lt, if◌then◌else◌}
use Rattle.std.specs.List.{flat_map}
use Rattle.std.specs.Fmt.{decimal}
use lib.Chars.{codes}
use Rattle.tx_model.specs.declared.category.Cat.{Cat}
use Rattle.tx_model.specs.declared.category.Cat.TheVariants as cat
use Rattle.tx_model.specs.Bytes.{blank}
use Rattle.tx_model.specs.Tokens.{Token, Char, Name, Active, Param, Stop}
use Rattle.tx_model.specs.Scanner.{is_letter}
use Rattle.tx_model.specs.Environment.{Environment, EscapeChar, category_of, parameter_of}

-- the escape character, which is printed where it is a byte
abbrev pub escape : ℤ → List ℕ
escape (pos n) = if nat_lt n 256 then n ∷ [] else []
escape (negsuc n) = []

-- a name with the escape character; the name without bytes prints as two
abbrev pub shown_name : ℤ → List ℕ → List ℕ
shown_name esc [] = escape esc ++ codes "csname" ++ escape esc ++ codes "endcsname"
shown_name esc (b ∷ text) = escape esc ++ b ∷ text

-- in a list a name is followed by a blank, unless it is one byte that is no letter now
abbrev pub blank_after : (ℕ → Cat) → List ℕ → List ℕ
blank_after cats [] = blank ∷ []
blank_after cats (b ∷ []) = if is_letter (cats b) then blank ∷ [] else []
blank_after cats (b ∷ c ∷ text) = blank ∷ []

-- what \string gives of a token
abbrev pub shown_token : ℤ → Token → List ℕ
shown_token esc (Char c b) = b ∷ []
shown_token esc (Name text) = shown_name esc text
shown_token esc (Active b) = b ∷ []
shown_token esc (Param n) = 35 ∷ decimal n
shown_token esc Stop = []

abbrev pub is_parameter : Cat → Bool
is_parameter cat.Parameter = true
is_parameter _ = false

-- a token in the text of a list
abbrev pub shown_in_list : (ℕ → Cat) → ℤ → Token → List ℕ
shown_in_list cats esc (Char c b) = if is_parameter c then b ∷ b ∷ [] else b ∷ []
shown_in_list cats esc (Name text) = shown_name esc text ++ blank_after cats text
shown_in_list cats esc (Active b) = b ∷ []
shown_in_list cats esc (Param n) = 35 ∷ decimal n
shown_in_list cats esc Stop = []

-- the text of a list, by the present categories and \escapechar
abbrev pub text_of_list : Environment → List Token → List ℕ
text_of_list maps tokens = flat_map (shown_in_list (category_of maps) (parameter_of maps EscapeChar)) tokens
