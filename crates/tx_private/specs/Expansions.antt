-- Expansion. *TeX: The Program*, part 25.
use Rattle.std.specs.Prelude.{ℕ, ℤ, pos, Bool, true, false, List, [], ◌∷◌, ◌++◌, codes, if◌then◌else◌}
use Rattle.tx_model.specs.Tokens.{Token}
use Rattle.tx_num.specs.declared.quantities.Quant.TheVariants as quant
use Rattle.tx_prims.specs.declared.primitives.Primitive.TheVariants as primitive
use Rattle.tx_prims.specs.declared.primitives.Assignment.TheVariants as assignment
use Rattle.tx_prims.specs.declared.primitives.Expandable.{Expandable}
use Rattle.tx_prims.specs.declared.primitives.Expandable.TheVariants as expandable
use Rattle.tx_prims.specs.declared.primitives.IntegerParameter.TheVariants.{EscapeChar}
use Rattle.tx_model.specs.Shown.{shown_token}
use Rattle.tx_private.specs.Errors.{plain, showing, decimal_of}
use Rattle.tx_private.specs.Meanings.{Register, Toks, Address, OfRegister, OfList, Meaning, Undefined, Prim, Macro', Register'}
use Rattle.tx_private.specs.Meanings as meaning
use Rattle.tx_private.specs.Environment.{present, parameter_of}
use Rattle.tx_private.specs.Described.{meaning_text, roman}
use Rattle.tx_private.specs.World.{World, Command, put_in_front}
use Rattle.tx_private.specs.Readings.{Expanded, Number, QuantityFrom, Value, Unexpandable, TextEnd, Tokens, Amount, Item, Tok, End, Given, Move, Take, Sub, Again, Done, Bad}
use Rattle.tx_private.specs.Texts.{tokens_of, quantity_text}
use Rattle.tx_private.specs.Quantities.{begins_quantity, byte_first}

-- the tokens of a list of an address
abbrev pub list_in : Meaning → List Token
list_in (meaning.Tokens tokens) = tokens
list_in _ = []

abbrev pub list_at : Address → World → List Token
list_at at w = list_in (present w.environment at)

-- The tokens of an expansion are put in front, and the reading begins again; but within an expanded text what
-- \the gives is its value as it stands.
abbrev pub gives_tokens : Bool → List Token → World → Move
gives_tokens true tokens w = Done (Tokens tokens) w
gives_tokens false tokens w = Again (put_in_front tokens w)

-- what \the can't be used with
abbrev pub no_quantity : Meaning → World → Move
no_quantity m w = Bad (showing 21 0 (meaning_text w.environment m)) w

-- \the, before a command of this meaning
abbrev pub the_of : Bool → Command → Meaning → List Item → World → Move
the_of text command (Register' Toks n) items w = gives_tokens text (list_at (OfRegister Toks n) w) w
the_of text command (Prim (primitive.ListParameter p)) items w = gives_tokens text (list_at (OfList p) w) w
the_of text command (Prim (primitive.Assignment assignment.Toks)) items w =
    byte_first 15 (λ n rest v. gives_tokens text (list_at (OfRegister Toks n) v) v) items w
the_of text command m [] w = if begins_quantity m then Sub (QuantityFrom command) w else no_quantity m w
the_of text command m (Given (Amount q) ∷ items) w = gives_tokens text (tokens_of (quantity_text q)) w
the_of text command m items w = Bad (plain 63) w

-- \the takes an expanded token
abbrev pub the : Bool → List Item → World → Move
the text [] w = Sub Expanded w
the text (Given (Unexpandable command) ∷ items) w = the_of text command command.meaning items w
the text items w = Bad (plain 21) w

-- \number
abbrev pub number_text : List Item → World → Move
number_text [] w = Sub Number w
number_text (Given (Amount (quant.Int n)) ∷ items) w = Again (put_in_front (tokens_of (decimal_of n)) w)
number_text items w = Bad (plain 63) w

-- \romannumeral
abbrev pub roman_text : List Item → World → Move
roman_text [] w = Sub Number w
roman_text (Given (Amount (quant.Int n)) ∷ items) w = Again (put_in_front (tokens_of (roman n)) w)
roman_text items w = Bad (plain 63) w

-- \string and \meaning take the next token as it stands; at the text's end they do nothing
abbrev pub text_of_next : (Command → World → List ℕ) → List Item → World → Move
text_of_next text [] w = Take w
text_of_next text (Tok command ∷ items) w = Again (put_in_front (tokens_of (text command w)) w)
text_of_next text items w = Again w

abbrev pub string_of : Command → World → List ℕ
string_of command w = shown_token (parameter_of w.environment EscapeChar) command.token

abbrev pub meaning_of_command : Command → World → List ℕ
meaning_of_command command w = meaning_text w.environment command.meaning

-- an expandable primitive; within an expanded text or not
abbrev pub expandable_primitive : Bool → Expandable → List Item → World → Move
expandable_primitive text expandable.The items w = the text items w
expandable_primitive text expandable.Number items w = number_text items w
expandable_primitive text expandable.RomanNumeral items w = roman_text items w
expandable_primitive text expandable.String items w = text_of_next string_of items w
expandable_primitive text expandable.Meaning items w = text_of_next meaning_of_command items w
expandable_primitive text expandable.JobName items w = Again (put_in_front (tokens_of (codes "texd")) w)
expandable_primitive text _ items w = Bad (plain 63) w

-- the expansion of a command, or the command where it can't be expanded
abbrev pub expansion : Bool → Command → Meaning → List Item → World → Move
expansion text command Undefined items w = Bad (plain 1) w
expansion text command (Macro' m) items w =
    if text then (if m.protected then Done (Unexpandable command) w else Again (put_in_front m.body w))
    else Again (put_in_front m.body w)
expansion text command (Prim (primitive.Expandable p)) items w = expandable_primitive text p items w
expansion text command _ items w = Done (Unexpandable command) w

-- an expanded token
abbrev pub expanded : Bool → List Item → World → Move
expanded text [] w = Take w
expanded text (Tok command ∷ items) w = expansion text command command.meaning items w
expanded text (End ∷ items) w = Done TextEnd w
expanded text (Given value ∷ items) w = Bad (plain 63) w
