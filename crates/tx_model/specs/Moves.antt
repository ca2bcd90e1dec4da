-- What each reading does next, given the items that it was given so far. *TeX: The Program*, parts 25
-- and 46.
use Rattle.std.specs.Prelude.{ℕ, zero, suc, ◌+◌, List, [], ◌∷◌, ◌++◌, Option, Some, None, if◌then◌else◌}
use Rattle.tx_model.specs.declared.category.Cat.TheVariants as cat
use Rattle.tx_model.specs.declared.primitive.Primitive.TheVariants as primitive
use Rattle.tx_model.specs.declared.error.Error.{Error}
use Rattle.tx_model.specs.declared.error.Error.TheVariants.{UndefinedControlSequence, TooManyRightBraces, EndedInGroup, NotBuilt}
use Rattle.tx_model.specs.Tokens.{Token, Name, is_left_brace, is_right_brace}
use Rattle.tx_model.specs.Shown.{text_of_list}
use Rattle.tx_model.specs.Environment.{Environment, Meaning, Undefined, Primitive', Macro, Character, defining, beginning_group, ending_group, open_groups}
use Rattle.tx_model.specs.World.{World, Command, put_in_front, with_environment, logged}

-- the readings
pub data Kind : Type 0 where
  -- main control, which ends where nothing is pending
  Control : Kind
  -- a token that can't be expanded
  Expanded : Kind
  -- what stands after a left brace up to its right brace: the tokens as they stand
  Balanced : Kind
  -- and the tokens to which they expand
  ExpandedBalanced : Kind

-- the values of readings
pub data Value : Type 0 where
  -- a token that can't be expanded, with its meaning
  Unexpandable : Command → Value
  -- the end of the text
  TextEnd : Value
  -- a balanced text
  Tokens : List Token → Value

-- what a reading is given
pub data Item : Type 0 where
  -- a token, taken as it stands, with its meaning at that moment
  Tok : Command → Item
  -- the end of the text, in place of a token
  End : Item
  -- the value of a reading within this one
  Given : Value → Item

pub data Move : Type 0 where
  -- the next token, as it stands
  Take : Move
  -- the value of a reading within this one
  Sub : Kind → Move
  -- begin again
  Again : World → Move
  Done : Value → World → Move
  Bad : Error → World → Move

-- the expansion of a token, or the token where it can't be expanded
abbrev pub expansion : Meaning → Command → World → Move
expansion Undefined command w = Bad UndefinedControlSequence w
expansion (Macro body) command w = Again (put_in_front body w)
expansion _ command w = Done (Unexpandable command) w

-- A right brace ends the text whose left brace was taken before, if all groups in it are closed.
abbrev pub closed_in : ℕ → List Token → Token → World → (ℕ → List Token → Move) → Move
closed_in zero tokens t w further = Done (Tokens tokens) w
closed_in (suc groups) tokens t w further = further groups (tokens ++ t ∷ [])

-- one token more of a balanced text with so many groups open in it, or the end of the region in place of it
abbrev pub adding : Option Token → ℕ → List Token → World → (ℕ → List Token → Move) → Move
adding None groups tokens w further = Bad NotBuilt w
adding (Some t) groups tokens w further =
    if is_left_brace t then further (groups + 1) (tokens ++ t ∷ [])
    else if is_right_brace t then closed_in groups tokens t w further
    else further groups (tokens ++ t ∷ [])

-- the token that an item is
abbrev pub token_given : Item → Option Token
token_given (Tok command) = Some command.token
token_given (Given (Unexpandable command)) = Some command.token
token_given _ = None

-- A balanced text of which these tokens were taken, and in which so many groups are open. Each further
-- token comes by this wish.
abbrev pub balanced : Move → ℕ → List Token → List Item → World → Move
balanced wish groups tokens [] w = wish
balanced wish groups tokens (item ∷ items) w =
    adding (token_given item) groups tokens w (λ n more. balanced wish n more items w)

-- \message, after its left brace
abbrev pub message_text : List Item → World → Move
message_text [] w = Sub ExpandedBalanced
message_text (Given (Tokens tokens) ∷ items) w = Again (logged (text_of_list w.environment tokens) w)
message_text _ w = Bad NotBuilt w

-- \message takes a left brace and an expanded balanced text, and logs it as a line
abbrev pub message : List Item → World → Move
message [] w = Take
message (Tok command ∷ items) w = if is_left_brace command.token then message_text items w else Bad NotBuilt w
message _ w = Bad NotBuilt w

-- \def, after its left brace
abbrev pub definition_body : List ℕ → List Item → World → Move
definition_body name [] w = Sub Balanced
definition_body name (Given (Tokens tokens) ∷ items) w = Again (with_environment (defining name (Macro tokens) w.environment) w)
definition_body name _ w = Bad NotBuilt w

-- \def, after its name
abbrev pub definition_of : Token → List Item → World → Move
definition_of (Name name) [] w = Take
definition_of (Name name) (Tok command ∷ items) w = if is_left_brace command.token then definition_body name items w else Bad NotBuilt w
definition_of _ _ w = Bad NotBuilt w

-- \def takes a name, a left brace and a balanced text, for which the name stands up to the group's end
abbrev pub definition : List Item → World → Move
definition [] w = Take
definition (Tok command ∷ items) w = definition_of command.token items w
definition _ w = Bad NotBuilt w

-- where a right brace leads
abbrev pub group_ended : Option Environment → World → Move
group_ended None w = Bad TooManyRightBraces w
group_ended (Some maps) w = Again (with_environment maps w)

-- a command of main control, by its meaning
abbrev pub control : Meaning → List Item → World → Move
control (Character cat.Space b) items w = Again w
control (Character cat.Begin b) items w = Again (with_environment (beginning_group w.environment) w)
control (Character cat.End b) items w = group_ended (ending_group w.environment) w
control (Primitive' primitive.Relax) items w = Again w
control (Primitive' primitive.Par) items w = Again w
control (Primitive' primitive.Message) items w = message items w
control (Primitive' primitive.Def) items w = definition items w
control _ items w = Bad NotBuilt w

-- the region's end
abbrev pub ended : ℕ → World → Move
ended zero w = Done TextEnd w
ended (suc n) w = Bad (EndedInGroup (suc n)) w

abbrev pub control_on : Value → List Item → World → Move
control_on (Unexpandable command) items w = control command.meaning items w
control_on TextEnd items w = ended (open_groups w.environment) w
control_on (Tokens tokens) items w = Bad NotBuilt w

unfoldable pub move_in : Kind → List Item → World → Move
move_in Control [] w = Sub Expanded
move_in Control (Given value ∷ items) w = control_on value items w
move_in Control items w = Bad NotBuilt w
move_in Expanded [] w = Take
move_in Expanded (Tok command ∷ items) w = expansion command.meaning command w
move_in Expanded (End ∷ items) w = Done TextEnd w
move_in Expanded items w = Bad NotBuilt w
move_in Balanced items w = balanced Take zero [] items w
move_in ExpandedBalanced items w = balanced (Sub Expanded) zero [] items w
