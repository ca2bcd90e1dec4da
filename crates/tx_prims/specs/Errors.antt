-- The texts of errors.
use Rattle.std.specs.Prelude.{ℕ, ◌==◌, ◌&&◌, ◌-◌, Bool, List, [], ◌∷◌, ◌++◌, take, drop, Option, None, Some, if◌then◌else◌, slice_index, nat_le}
use Rattle.std.specs.List.{list_all}
use Rattle.tx_prims.specs.declared.errors.Hole.{Hole}
use Rattle.tx_prims.specs.declared.errors.Hole.TheVariants as hole
use Rattle.tx_prims.specs.declared.errors.HoleValues.{HoleValues}
use Rattle.tx_prims.specs.declared.errors.ErrorText.{ErrorText}
use Rattle.tx_prims.specs.declared.errors.TheConstants.{ERRORS, ASTERISK}
use Rattle.tx_prims.specs.Rows.{row_of}

-- The text of the error with this number and this case. It is opaque where it is cited, so that no
-- goal carries the rows; a proof that needs it at a given error writes `unfolding`.
unfoldable pub text_of_error : ℕ → ℕ → Option ErrorText
text_of_error number case = row_of (number ∷ case ∷ []) ERRORS

-- the text, in which an asterisk stands for each hole
abbrev pub text_with_holes : ErrorText → List ℕ
text_with_holes text = take text.len text.bytes

-- the text ends with a point, and only spaces come after it
abbrev pub ends_with_a_point : ErrorText → Bool
ends_with_a_point text =
    nat_le text.len 56 && slice_index text.bytes (text.len - 1) == 46 && list_all (λ byte. byte == 32) (drop text.len text.bytes)

-- what is filled into each hole
abbrev pub value_of : HoleValues → Hole → List ℕ
value_of values hole.Meaning = values.meaning.now
value_of values hole.Name = values.name.now
value_of values hole.Number = values.number.now
value_of values hole.Limit = values.limit.now
value_of values hole.Mode = values.mode.now
value_of values hole.File = values.file.now
value_of values hole.Character = values.character.now
value_of values hole.Message = values.message.now

abbrev pub value_or_nothing : (Hole → List ℕ) → Option Hole → List ℕ
value_or_nothing value None = []
value_or_nothing value (Some hole) = value hole

-- a text in which the values of the first and the second hole stand for the first and the second
-- asterisk, and nothing for any other
abbrev pub filled_from : (Hole → List ℕ) → Option Hole → Option Hole → List ℕ → List ℕ
filled_from value first second [] = []
filled_from value first second (byte ∷ bytes) =
    if byte == ASTERISK then value_or_nothing value first ++ filled_from value second None bytes else byte ∷ filled_from value first second bytes

-- the text of an error with its holes filled
abbrev pub filled : (Hole → List ℕ) → ErrorText → List ℕ
filled value text = filled_from value text.first text.second (text_with_holes text)
