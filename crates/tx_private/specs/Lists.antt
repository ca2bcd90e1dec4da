-- Balanced texts, braces and values of lists. *TeX: The Program*, part 26 and 27.
use Rattle.std.specs.Prelude.{ℕ, zero, suc, pos, ◌+◌, ◌==◌, ◌&&◌, nat_lt, Bool, true, false, List, [], ◌∷◌, ◌++◌, length, Option, Some, None, if◌then◌else◌}
use Rattle.tx_model.specs.declared.category.Cat.TheVariants as cat
use Rattle.tx_model.specs.Tokens.{Token, Char, is_left_brace, is_right_brace}
use Rattle.tx_prims.specs.declared.primitives.Primitive.TheVariants as primitive
use Rattle.tx_prims.specs.declared.primitives.Assignment.TheVariants as assignment
use Rattle.tx_prims.specs.declared.primitives.Command.TheVariants as command
use Rattle.tx_private.specs.Errors.{plain, numbered}
use Rattle.tx_private.specs.Meanings.{Toks, OfRegister, OfList, Meaning, Prim, Character, Register'}
use Rattle.tx_private.specs.World.{World, Command, put_in_front}
use Rattle.tx_private.specs.Readings.{Expanded, Balanced, Value, Unexpandable, TextEnd, Tokens, Nothing, Item, Tok, End, Given, Move, Take, Sub, Done, Bad}
use Rattle.tx_private.specs.Quantities.{byte_first}
use Rattle.tx_private.specs.Expansions.{list_at}

-- at most so many tokens stand in one list
abbrev pub most_in_list : ℕ
most_in_list = 262144

-- the tokens of the lists that a run may store
abbrev pub most_stored : Bool → ℕ
most_stored preamble = if preamble then 4194304 else 1048576

-- a list is stored, and counts by its length
abbrev pub storing : List Token → World → (World → Move) → Move
storing tokens w further =
    if nat_lt (most_stored w.preamble) (w.stored + length tokens) then Bad (numbered 57 5 (pos (most_stored w.preamble))) w
    else further (record w { stored = w.stored + length tokens })

-- what was read of a list leads on, if it is not too long
abbrev pub bounded : World → (ℕ → List Token → Move) → ℕ → List Token → Move
bounded w further groups tokens = if nat_lt most_in_list (length tokens) then Bad (numbered 57 5 (pos most_in_list)) w else further groups tokens

-- A right brace ends the text whose left brace was taken before, if all groups in it are closed.
abbrev pub closed_in : ℕ → List Token → Token → World → (ℕ → List Token → Move) → Move
closed_in zero tokens t w further = Done (Tokens tokens) w
closed_in (suc groups) tokens t w further = further groups (tokens ++ t ∷ [])

-- one token more of a balanced text with so many groups open in it
abbrev pub adding : ℕ → List Token → Token → World → (ℕ → List Token → Move) → Move
adding groups tokens t w further =
    if is_left_brace t then further (groups + 1) (tokens ++ t ∷ [])
    else if is_right_brace t then closed_in groups tokens t w further
    else further groups (tokens ++ t ∷ [])

abbrev pub is_parameter_token : Token → Bool
is_parameter_token (Char cat.Parameter b) = true
is_parameter_token _ = false

-- a token that is taken; in a body a parameter character isn't built yet
abbrev pub taking_in : Bool → ℕ → List Token → Token → World → (ℕ → List Token → Move) → Move
taking_in body groups tokens t w further =
    if body && is_parameter_token t then Bad (plain 63) w else adding groups tokens t w further

-- One item more: a token, or a list that is added as it stands. The end of the text is not lawful in it.
abbrev pub with_item : Bool → ℕ → List Token → Item → World → (ℕ → List Token → Move) → Move
with_item body groups tokens (Tok c) w further = taking_in body groups tokens c.token w further
with_item body groups tokens (Given (Unexpandable c)) w further = taking_in body groups tokens c.token w further
with_item body groups tokens (Given (Tokens more)) w further = further groups (tokens ++ more)
with_item body groups tokens _ w further = Bad (plain 63) w

-- a balanced text, which is a body or not, of which these tokens were taken, each further one by this wish
abbrev pub balanced : Bool → (World → Move) → ℕ → List Token → List Item → World → Move
balanced body wish groups tokens [] w = wish w
balanced body wish groups tokens (item ∷ items) w = with_item body groups tokens item w (bounded w (λ n more. balanced body wish n more items w))

-- spaces and \relax are skipped before a left brace
abbrev pub is_skipped : Meaning → Bool
is_skipped (Character cat.Space b) = true
is_skipped (Prim (primitive.Command command.Relax)) = true
is_skipped _ = false

abbrev pub is_begin : Meaning → Bool
is_begin (Character cat.Begin b) = true
is_begin _ = false

-- a left brace behind spaces and \relax
abbrev pub left_brace : List Item → World → Move
left_brace [] w = Sub Expanded w
left_brace (Given (Unexpandable c) ∷ items) w =
    if is_skipped c.meaning then left_brace items w else if is_begin c.meaning then Done Nothing w else Bad (plain 8) w
left_brace _ w = Bad (plain 8) w

abbrev pub is_equals : Token → Bool
is_equals (Char cat.Other b) = b == 61
is_equals _ = false

abbrev pub is_space : Meaning → Bool
is_space (Character cat.Space b) = true
is_space _ = false

-- an equals sign behind spaces, or nothing, and then the token is put back
abbrev pub optional_equals : List Item → World → Move
optional_equals [] w = Sub Expanded w
optional_equals (Given (Unexpandable c) ∷ items) w =
    if is_space c.meaning then optional_equals items w
    else if is_equals c.token then Done Nothing w
    else Done Nothing (put_in_front (c.token ∷ []) w)
optional_equals _ w = Done Nothing w

-- the value of a list, behind spaces and \relax: a register or a parameter of lists, or a text in braces
abbrev pub list_from : Meaning → List Item → World → Move
list_from (Register' Toks n) items w = Done (Tokens (list_at (OfRegister Toks n) w)) w
list_from (Prim (primitive.ListParameter p)) items w = Done (Tokens (list_at (OfList p) w)) w
list_from (Prim (primitive.Assignment assignment.Toks)) items w =
    byte_first 15 (λ n rest v. Done (Tokens (list_at (OfRegister Toks n) v)) v) items w
list_from (Character cat.Begin b) [] w = Sub Balanced w
list_from (Character cat.Begin b) (Given (Tokens tokens) ∷ items) w = storing tokens w (λ v. Done (Tokens tokens) v)
list_from _ items w = Bad (plain 8) w

abbrev pub list_value : List Item → World → Move
list_value [] w = Sub Expanded w
list_value (Given (Unexpandable c) ∷ items) w =
    if is_skipped c.meaning then list_value items w else list_from c.meaning items w
list_value _ w = Bad (plain 8) w
