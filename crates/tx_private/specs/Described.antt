-- Meanings as TeX describes them. *TeX: The Program*, part 20.
use Rattle.std.specs.Prelude.{ℕ, zero, suc, ℤ, pos, negsuc, nat_lt, ◌+◌, ◌/◌, ◌%◌, ◌||◌, Bool, List, [], ◌∷◌, ◌++◌, codes, replicate, if◌then◌else◌}
use Rattle.std.specs.List.{flat_map}
use Rattle.std.specs.Fmt.{decimal}
use Rattle.tx_model.specs.declared.category.Cat.{Cat}
use Rattle.tx_model.specs.declared.category.Cat.TheVariants as cat
use Rattle.tx_model.specs.Shown.{escape, shown_in_list}
use Rattle.tx_prims.specs.declared.TableRow.{TableRow}
use Rattle.tx_prims.specs.Keys.{text_of}
use Rattle.tx_prims.specs.declared.primitives.Primitive.{Primitive}
use Rattle.tx_prims.specs.declared.primitives.TheConstants.{PRIMITIVES}
use Rattle.tx_prims.specs.declared.primitives.IntegerParameter.TheVariants.{EscapeChar}
use Rattle.tx_prims.specs.contracts.primitives.PrimitivePartialEq.TheImpl as primitives
use Rattle.tx_private.specs.Meanings.{Register, Count, Dimen, Skip, MuSkip, Toks, Macro, Meaning, Undefined, Prim, Macro', Character, Code, Register'}
use Rattle.tx_private.specs.Environment.{Environment, category_of, parameter_of}

-- the name under which a primitive stands in the table
abbrev pub name_in : Primitive → List (TableRow Primitive) → List ℕ
name_in p [] = []
name_in p (row ∷ rows) = if primitives.ghosts.eq p row.row then text_of row.key else name_in p rows

unfoldable pub name_of_primitive : Primitive → List ℕ
name_of_primitive p = name_in p PRIMITIVES

-- an upper-case hexadecimal digit
abbrev pub capital_digit : ℕ → ℕ
capital_digit n = if nat_lt n 10 then 48 + n else 55 + n

-- a number in hexadecimal, of so many digits at the most
abbrev pub hexadecimal_within : ℕ → ℕ → List ℕ
hexadecimal_within zero n = []
hexadecimal_within (suc more) n =
    if nat_lt n 16 then capital_digit n ∷ [] else hexadecimal_within more (n / 16) ++ capital_digit (n % 16) ∷ []

abbrev pub hexadecimal : ℕ → List ℕ
hexadecimal n = 34 ∷ hexadecimal_within 8 n

-- a character by its category
abbrev pub character_text : Cat → ℕ → List ℕ
character_text cat.Begin b = codes "begin-group character " ++ b ∷ []
character_text cat.End b = codes "end-group character " ++ b ∷ []
character_text cat.Math b = codes "math shift character " ++ b ∷ []
character_text cat.Tab b = codes "alignment tab character " ++ b ∷ []
character_text cat.Parameter b = codes "macro parameter character " ++ b ∷ []
character_text cat.Superscript b = codes "superscript character " ++ b ∷ []
character_text cat.Subscript b = codes "subscript character " ++ b ∷ []
character_text cat.Space b = codes "blank space " ++ b ∷ []
character_text cat.Letter b = codes "the letter " ++ b ∷ []
character_text _ b = codes "the character " ++ b ∷ []

abbrev pub register_name : Register → List ℕ
register_name Count = codes "count"
register_name Dimen = codes "dimen"
register_name Skip = codes "skip"
register_name MuSkip = codes "muskip"
register_name Toks = codes "toks"

-- a flag of a macro, with the escape character
abbrev pub flag : Bool → ℤ → List ℕ → List ℕ
flag b esc word = if b then escape esc ++ word else []

abbrev pub blank_behind : Bool → List ℕ
blank_behind b = if b then 32 ∷ [] else []

abbrev pub macro_text : Environment → ℤ → Macro → List ℕ
macro_text e esc m =
    flag m.protected esc (codes "protected") ++ flag m.long esc (codes "long") ++ blank_behind (m.protected || m.long)
    ++ codes "macro:->" ++ flat_map (shown_in_list (category_of e) esc) m.body

-- what \meaning gives
abbrev pub described : Environment → ℤ → Meaning → List ℕ
described e esc Undefined = codes "undefined"
described e esc (Prim p) = escape esc ++ name_of_primitive p
described e esc (Macro' m) = macro_text e esc m
described e esc (Character c b) = character_text c b
described e esc (Code math n) = escape esc ++ (if math then codes "mathchar" else codes "char") ++ hexadecimal n
described e esc (Register' kind n) = escape esc ++ register_name kind ++ decimal n
described e esc _ = []

abbrev pub meaning_text : Environment → Meaning → List ℕ
meaning_text e m = described e (parameter_of e EscapeChar) m

-- Roman numerals: a digit by the letters for one, five and ten.
abbrev pub roman_digit : ℕ → ℕ → ℕ → ℕ → List ℕ
roman_digit one five ten zero = []
roman_digit one five ten (suc zero) = one ∷ []
roman_digit one five ten (suc (suc zero)) = one ∷ one ∷ []
roman_digit one five ten (suc (suc (suc zero))) = one ∷ one ∷ one ∷ []
roman_digit one five ten (suc (suc (suc (suc zero)))) = one ∷ five ∷ []
roman_digit one five ten (suc (suc (suc (suc (suc zero))))) = five ∷ []
roman_digit one five ten (suc (suc (suc (suc (suc (suc zero)))))) = five ∷ one ∷ []
roman_digit one five ten (suc (suc (suc (suc (suc (suc (suc zero))))))) = five ∷ one ∷ one ∷ []
roman_digit one five ten (suc (suc (suc (suc (suc (suc (suc (suc zero)))))))) = five ∷ one ∷ one ∷ one ∷ []
roman_digit one five ten (suc (suc (suc (suc (suc (suc (suc (suc (suc n))))))))) = one ∷ ten ∷ []

-- a number in lower-case Roman numerals; one that is not above 0 has none
abbrev pub roman : ℤ → List ℕ
roman (negsuc n) = []
roman (pos n) =
    replicate (n / 1000) 109 ++ roman_digit 99 100 109 (n % 1000 / 100) ++ roman_digit 120 108 99 (n % 100 / 10) ++ roman_digit 105 118 120 (n % 10)
