-- The readings: what they are given, and what they do next. *TeX: The Program*, part 24 to 26.
use Rattle.std.specs.Prelude.{ℕ, Bool, List}
use Rattle.tx_model.specs.Tokens.{Token}
use Rattle.tx_num.specs.declared.quantities.Quant.{Quant}
use Rattle.tx_quant.specs.declared.keyword.KeySet.{KeySet}
use Rattle.tx_private.specs.Errors.{Error}
use Rattle.tx_private.specs.World.{World, Command}

pub data Kind : Type 0 where
  -- main control, which ends where nothing is pending
  Control : Kind
  -- a token that can't be expanded
  Expanded : Kind
  -- the same within an expanded text, where \the gives its tokens as they are
  ExpandedInText : Kind
  -- what stands after a left brace up to its right brace: the tokens as they stand
  Balanced : Kind
  -- and the tokens to which they expand
  ExpandedBalanced : Kind
  -- the same for the body of a definition, in which a parameter character is not lawful yet
  Body : Kind
  ExpandedBody : Kind
  -- a left brace behind spaces and \relax
  LeftBrace : Kind
  -- an equals sign, or nothing
  OptionalEquals : Kind
  -- a number
  Number : Kind
  -- a dimension, measured in mu or not
  DimensionOf : Bool → Kind
  -- glue, measured in mu or not
  GlueOf : Bool → Kind
  -- one of the keywords of a set, or none
  Keyword : KeySet → Kind
  -- the quantity that begins with this command
  QuantityFrom : Command → Kind
  -- the value of a list of tokens
  ListValue : Kind

-- the values of readings
pub data Value : Type 0 where
  -- a token that can't be expanded, with its meaning
  Unexpandable : Command → Value
  -- the end of the text
  TextEnd : Value
  -- a list of tokens
  Tokens : List Token → Value
  -- a quantity
  Amount : Quant → Value
  -- a keyword by its place in its set, or 255
  Word : ℕ → Value
  -- what was looked for was there, or it was not, and nothing depends on it
  Nothing : Value

-- what a reading is given
pub data Item : Type 0 where
  -- a token, taken as it stands, with its meaning at that moment
  Tok : Command → Item
  -- the end of the text, in place of a token
  End : Item
  -- the value of a reading within this one
  Given : Value → Item

-- what a reading does next, and in which world
pub data Move : Type 0 where
  -- it takes the next token, as it stands
  Take : World → Move
  -- it wishes for the value of a reading within it
  Sub : Kind → World → Move
  -- it begins again
  Again : World → Move
  Done : Value → World → Move
  Bad : Error → World → Move
