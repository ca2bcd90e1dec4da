-- Numbers (TeX: The Program, sections 440 to 445).
use Rattle.std.specs.Prelude.{ℕ, ◌+◌, ◌*◌, ◌-◌, ◌^◌, ◌==◌, ◌||◌, nat_lt, Bool, false, not, if◌then◌else◌, ℤ, pos, neg_ℤ, [], ◌∷◌, Option, Some, None, Result, Ok, Err}
use Rattle.tx_model.specs.declared.category.Cat.{Cat}
use Rattle.tx_model.specs.declared.category.Cat.TheVariants as cat
use Rattle.tx_tok.specs.declared.tok.Tok.TheVariants as tok
use Rattle.tx_num.specs.declared.quantities.Want.TheVariants.{Expanded, Start, Plain}
use Rattle.tx_num.specs.declared.quantities.ErrorNo.{ErrorNo}
use Rattle.tx_num.specs.declared.quantities.Quant.{Quant}
use Rattle.tx_num.specs.declared.quantities.Quant.TheVariants as quant
use Rattle.tx_num.specs.Ranges.{integer}
use Rattle.tx_quant.specs.Errors.{missing_number, number_too_big, incompatible_units, improper_constant}
use Rattle.tx_quant.specs.Items.{Item, Token, Quantity, Letter, Move, Asks, Gives, Fails, Reading, is_space}

-- this character, which counts with category 12 alone
abbrev pub is_other : ℕ → Item → Bool
is_other c (Token (tok.Char cat.Other b)) = b == c
is_other c _ = false

abbrev pub digit_below : ℕ → ℕ → Option ℕ
digit_below base d = if nat_lt d base then Some d else None

-- the digits from A on
abbrev pub capital_digit : ℕ → ℕ → Option ℕ
capital_digit base c = if nat_lt c 65 then None else if nat_lt c 71 then digit_below base (c - 55) else None

-- a digit counts with category 12, and from A on with 11 too
abbrev pub digit_of_byte : ℕ → Cat → ℕ → Option ℕ
digit_of_byte base cat.Other c =
    if nat_lt c 48 then None else if nat_lt c 58 then digit_below base (c - 48) else capital_digit base c
digit_of_byte base cat.Letter c = capital_digit base c
digit_of_byte base _ c = None

-- the digit to this base that an item is
abbrev pub digit : ℕ → Item → Option ℕ
digit base (Token (tok.Char category c)) = digit_of_byte base category c
digit base _ = None

-- a minus turns the sign
abbrev pub signed : Bool → ℤ → ℤ
signed negative z = if negative then neg_ℤ z else z

-- a space behind is used, another token is put back
abbrev pub unused : Item → ℕ
unused item = if is_space item then 0 else 1

abbrev pub optional_space : ℤ → Reading ℤ
optional_space v [] = Asks Expanded 0
optional_space v (item ∷ items) = Gives v (unused item)

-- a digit more, after those that make up n
abbrev pub with_digit : Option ℕ → Bool → ℕ → ℕ → Item → (ℕ → Move ℤ) → Move ℤ
with_digit None negative base n item more = Gives (signed negative (pos n)) (unused item)
with_digit (Some d) negative base n item more =
    if nat_lt (n * base + d) (2 ^ 31) then more (n * base + d) else Fails number_too_big

-- the digits to this base, after those that make up n
abbrev pub digits : Bool → ℕ → ℕ → Reading ℤ
digits negative base n [] = Asks Expanded 0
digits negative base n (item ∷ items) =
    with_digit (digit base item) negative base n item (λ m. digits negative base m items)

abbrev pub from_digit : Option ℕ → Bool → ℕ → Reading ℤ
from_digit None negative base items = Fails missing_number
from_digit (Some d) negative base items = digits negative base d items

-- the digits to this base, of which there is one at least
abbrev pub first_digit : Bool → ℕ → Reading ℤ
first_digit negative base [] = Asks Expanded 0
first_digit negative base (item ∷ items) = from_digit (digit base item) negative base items

-- the code of a character, after a backquote
abbrev pub alphabetic : Bool → Reading ℤ
alphabetic negative [] = Asks Plain 0
alphabetic negative (Letter (Some c) ∷ items) = optional_space (signed negative (pos c)) items
alphabetic negative (Letter None ∷ items) = Fails improper_constant
alphabetic negative (Token t ∷ items) = Fails improper_constant
alphabetic negative (Quantity q ∷ items) = Fails improper_constant

abbrev pub if_integer : Option ℤ → Move ℤ
if_integer None = Fails number_too_big
if_integer (Some v) = Gives v 0

-- a value that ends a reading, or an error
abbrev pub ended : Result ℤ ErrorNo → Move ℤ
ended (Ok v) = Gives v 0
ended (Err error) = Fails error

-- an internal quantity as a number
abbrev pub internal_number : Bool → Quant → Move ℤ
internal_number negative (quant.Int n) = if_integer (integer (signed negative n))
internal_number negative (quant.Dim d) = Gives (signed negative d) 0
internal_number negative (quant.Glue g) = Gives (signed negative g.width) 0
internal_number negative (quant.Mu g) = Fails incompatible_units

-- a number without a sign
abbrev pub unsigned : Bool → Item → Reading ℤ
unsigned negative (Quantity q) items = internal_number negative q
unsigned negative (Letter c) items = Fails missing_number
unsigned negative (Token t) items =
    if is_other 39 (Token t) then first_digit negative 8 items
    else if is_other 34 (Token t) then first_digit negative 16 items
    else if is_other 96 (Token t) then alphabetic negative items
    else from_digit (digit 10 (Token t)) negative 10 items

-- a number, after signs of which a minus or none is left
abbrev pub number_after : Bool → Reading ℤ
number_after negative [] = Asks Start 0
number_after negative (item ∷ items) =
    if is_space item || is_other 43 item then number_after negative items
    else if is_other 45 item then number_after (not negative) items
    else unsigned negative item items

-- a number
abbrev pub number : Reading ℤ
number items = number_after false items
