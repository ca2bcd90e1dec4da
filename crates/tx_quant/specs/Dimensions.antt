-- Dimensions (TeX: The Program, sections 448 to 460).
use Rattle.std.specs.Prelude.{ℕ, ◌+◌, ◌*◌, ◌^◌, ◌==◌, ◌||◌, nat_lt, Bool, false, not, if◌then◌else◌, ℤ, pos, negsuc, suc, List, [], ◌∷◌, Option, Some, None}
use Rattle.tx_num.specs.declared.glue.Order.{Order}
use Rattle.tx_num.specs.declared.glue.Order.TheVariants.{Finite, Fil, Fill, Filll}
use Rattle.tx_num.specs.declared.quantities.Want.TheVariants.{Expanded, Start}
use Rattle.tx_num.specs.declared.quantities.ErrorNo.{ErrorNo}
use Rattle.tx_num.specs.declared.quantities.Quant.{Quant}
use Rattle.tx_num.specs.declared.quantities.Quant.TheVariants as quant
use Rattle.tx_num.specs.Decimals.{round_digits}
use Rattle.tx_num.specs.Ranges.{dimension as if_dimension}
use Rattle.tx_quant.specs.declared.factor.Factor.{Factor}
use Rattle.tx_quant.specs.declared.internal.Internal.{Internal}
use Rattle.tx_quant.specs.declared.internal.Internal.TheVariants as internal
use Rattle.tx_quant.specs.declared.setting.Setting.{Setting}
use Rattle.tx_quant.specs.declared.size.Size.{Size}
use Rattle.tx_quant.specs.declared.units.UnitWord.{UnitWord}
use Rattle.tx_quant.specs.declared.units.UnitWord.TheVariants as word
use Rattle.tx_quant.specs.declared.units.Unit.TheVariants as unit
use Rattle.tx_quant.specs.Errors.{missing_number, number_too_big, no_unit, no_math_unit, too_infinite, dimension_too_large, incompatible_units}
use Rattle.tx_quant.specs.Items.{Item, Token, Quantity, Letter, Move, Asks, Gives, Fails, Reading, is_space}
use Rattle.tx_quant.specs.Behinds.{Behind, gives_before, and_then, after_putting_back}
use Rattle.tx_quant.specs.Spelling.{letter, spell, nonblank}
use Rattle.tx_quant.specs.Numbers.{is_other, digit, signed, unused}
use Rattle.tx_quant.specs.Units.{unit_words, lengths}
use Rattle.tx_quant.specs.Factors.{factor}
use Rattle.tx_quant.specs.Fractions.{with_decimal}
use Rattle.tx_quant.specs.Sizes.{amount, times}

-- what the reading of a dimension does
abbrev pub Sized : Type 0
Sized = Move (Behind Size)

abbrev pub size : ℤ → Order → Size
size v order = record { amount = v; order = order }

-- the end of a dimension, which may be too large
abbrev pub ends : Option ℤ → Order → ℕ → List Item → Sized
ends None order back items = Fails dimension_too_large
ends (Some v) order back items = gives_before items (size v order) back

-- a space behind a unit is used
abbrev pub unit_space : Option ℤ → Order → Reading (Behind Size)
unit_space v order [] = Asks Expanded 0
unit_space v order (item ∷ items) = ends v order (unused item) items

abbrev pub is_letter : ℕ → Option ℕ → Bool
is_letter c None = false
is_letter c (Some b) = b == c

-- a higher order of infinity, if there is one
abbrev pub if_higher : Order → (Order → Sized) → Sized
if_higher Finite more = more Fil
if_higher Fil more = more Fill
if_higher Fill more = more Filll
if_higher Filll more = Fails too_infinite

-- After `fil` each `l` makes it more infinite. Spaces before an `l` are used. What is no `l` is put back, and
-- the space behind the unit is looked for.
abbrev pub infinite : Option ℤ → Order → Reading (Behind Size)
infinite v order [] = Asks Expanded 0
infinite v order (item ∷ items) =
    if is_space item then infinite v order items
    else if is_letter 108 (letter item) then if_higher order (λ higher. infinite v higher items)
    else after_putting_back 1 (unit_space v order) items

abbrev pub missing_unit : Setting → ErrorNo
missing_unit s = if s.math then no_math_unit else no_unit

abbrev pub no_unit_here : Setting → ℕ → Reading (Behind Size)
no_unit_here s taken items = Fails (missing_unit s)

-- a unit that stands after `true`
abbrev pub true_unit : Setting → Factor → UnitWord → Reading (Behind Size)
true_unit s f (word.Of u) items = unit_space (amount s f u) Finite items
true_unit s f word.True items = Fails (missing_unit s)
true_unit s f word.Fil items = Fails (missing_unit s)

-- after `true`, which changes nothing
abbrev pub after_true : Setting → Factor → Reading (Behind Size)
after_true s f items = nonblank (Asks Expanded 0) (spell (true_unit s f) (no_unit_here s) lengths 0) items

-- after one of the words that may stand behind a factor
abbrev pub after_word : Setting → Factor → UnitWord → Reading (Behind Size)
after_word s f (word.Of u) items = unit_space (amount s f u) Finite items
after_word s f word.True items = after_true s f items
after_word s f word.Fil items = infinite (amount s f unit.Pt) Fil items

-- what an internal quantity is to a dimension
abbrev pub internal_of : Bool → Quant → Internal
internal_of math (quant.Int n) = internal.Integer n
internal_of math (quant.Dim d) = if math then internal.Other else internal.Dimension d
internal_of math (quant.Glue g) = if math then internal.Other else internal.Dimension g.width
internal_of math (quant.Mu g) = if math then internal.Dimension g.width else internal.Other

-- it as a unit
abbrev pub internal_unit : Setting → Factor → Internal → List Item → Sized
internal_unit s f (internal.Integer n) items = Fails (missing_unit s)
internal_unit s f (internal.Dimension v) items = ends (if_dimension (signed f.negative (times f v))) Finite 0 items
internal_unit s f internal.Other items = Fails incompatible_units

-- a unit, of which the first item is no space
abbrev pub unit_at : Setting → Factor → Reading (Behind Size)
unit_at s f [] = Asks Start 0
unit_at s f (Quantity q ∷ items) = internal_unit s f (internal_of s.math q) items
unit_at s f (Letter c ∷ items) = Fails (missing_unit s)
unit_at s f (Token t ∷ items) = spell (after_word s f) (no_unit_here s) (unit_words s) 0 (Token t ∷ items)

-- a unit, after its factor
abbrev pub unit_after : Setting → Factor → Reading (Behind Size)
unit_after s f items = nonblank (Asks Start 0) (unit_at s f) items

-- a point, or a comma in its place
abbrev pub is_point : Item → Bool
is_point item = is_other 46 item || is_other 44 item

-- a digit, or another item
abbrev pub if_digit : Option ℕ → (ℕ → Sized) → Sized → Sized
if_digit None more other = other
if_digit (Some d) more other = more d

-- the decimals behind a point, after these
abbrev pub decimals : Setting → Bool → ℕ → List ℕ → Reading (Behind Size)
decimals s negative n ds [] = Asks Start 0
decimals s negative n ds (item ∷ items) =
    if_digit (digit 10 item) (λ d. decimals s negative n (with_decimal ds d) items)
    (unit_after s (factor negative n (round_digits ds)) (item ∷ items))

-- what is no digit, behind the digits that make up n
abbrev pub behind_whole : Setting → Bool → ℕ → Reading (Behind Size)
behind_whole s negative n [] = Asks Start 0
behind_whole s negative n (item ∷ items) =
    if is_point item then decimals s negative n [] items else unit_after s (factor negative n 0) (item ∷ items)

-- the digits before a point, after those that make up n
abbrev pub whole : Setting → Bool → ℕ → Reading (Behind Size)
whole s negative n [] = Asks Start 0
whole s negative n (item ∷ items) =
    if_digit (digit 10 item)
    (λ d. if nat_lt (n * 10 + d) (2 ^ 31) then whole s negative (n * 10 + d) items else Fails number_too_big)
    (behind_whole s negative n (item ∷ items))

-- an internal integer as a factor
abbrev pub internal_factor : Bool → ℤ → Factor
internal_factor negative (pos n) = factor negative n 0
internal_factor negative (negsuc n) = factor (not negative) (suc n) 0

-- a quantity after signs: an integer is a factor, and another one the value
abbrev pub internal_value : Setting → Bool → Internal → List Item → Sized
internal_value s negative (internal.Integer n) items = unit_after s (internal_factor negative n) items
internal_value s negative (internal.Dimension v) items = gives_before items (size (signed negative v) Finite) 0
internal_value s negative internal.Other items = Fails incompatible_units

-- a dimension without a sign
abbrev pub unsigned_dimension : Setting → Bool → Reading (Behind Size)
unsigned_dimension s negative [] = Asks Start 0
unsigned_dimension s negative (Quantity q ∷ items) = internal_value s negative (internal_of s.math q) items
unsigned_dimension s negative (Letter c ∷ items) = Fails missing_number
unsigned_dimension s negative (Token t ∷ items) =
    if_digit (digit 10 (Token t)) (λ d. whole s negative d items)
    (if is_point (Token t) then decimals s negative 0 [] items else Fails missing_number)

-- a dimension, after signs of which a minus or none is left
abbrev pub dimension_after : Setting → Bool → Reading (Behind Size)
dimension_after s negative [] = Asks Start 0
dimension_after s negative (item ∷ items) =
    if is_space item || is_other 43 item then dimension_after s negative items
    else if is_other 45 item then dimension_after s (not negative) items
    else unsigned_dimension s negative (item ∷ items)

-- a dimension, and what comes behind it
abbrev pub dimension : Setting → Reading (Behind Size)
dimension s items = dimension_after s false items

-- a dimension alone is its amount
abbrev pub only_amount : Size → ℕ → Reading ℤ
only_amount size back items = Gives size.amount back

-- a dimension measured in mu or not, with so much for an em and an ex
abbrev pub dimension_value : Bool → ℤ → ℤ → Reading ℤ
dimension_value mu em ex items =
    and_then (dimension (record { math = mu; infinite = false; em = em; ex = ex }) items) only_amount
