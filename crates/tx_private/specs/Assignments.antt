-- Assignments. *TeX: The Program*, part 49.
use Rattle.std.specs.Prelude.{ℕ, zero, suc, ℤ, pos, negsuc, ◌+◌, ◌*◌, ◌==◌, unsigned_abs, neg_ℤ, nat_le, nat_lt, Bool, true, false, List, [], ◌∷◌, Option, Some, None, if◌then◌else◌}
use Rattle.tx_model.specs.declared.category.Cat.TheVariants as cat
use Rattle.tx_model.specs.Tokens.{Token, Char, Name, Active, is_left_brace}
use Rattle.tx_num.specs.Ranges.{integer, dimension}
use Rattle.tx_num.specs.declared.quantities.Quant.{Quant}
use Rattle.tx_num.specs.declared.quantities.Quant.TheVariants as quant
use Rattle.tx_prims.specs.declared.primitives.Primitive.TheVariants as primitive
use Rattle.tx_prims.specs.declared.primitives.Assignment.{Assignment}
use Rattle.tx_prims.specs.declared.primitives.Assignment.TheVariants as assignment
use Rattle.tx_prims.specs.declared.primitives.Command.TheVariants as command
use Rattle.tx_prims.specs.declared.primitives.IntegerParameter.TheVariants.{GlobalDefs}
use Rattle.tx_quant.specs.declared.keyword.KeySet.TheVariants.{By}
use Rattle.tx_private.specs.Errors.{plain, numbered, beyond}
use Rattle.tx_private.specs.Meanings.{Register, Count, Dimen, Skip, MuSkip, Toks, CodeTable, CatCodes, LowerCases, UpperCases, SpaceFactors, MathCodes, DelimiterCodes, Address, OfName, OfActive, OfRegister, OfCode, OfInteger, OfDimension, OfGlue, OfList, Meaning, Prim, Macro', Code, Register', Integer, Dimension, Glue}
use Rattle.tx_private.specs.Meanings as meaning
use Rattle.tx_private.specs.Environment.{assigning, parameter_of, present}
use Rattle.tx_private.specs.World.{World, Command, put_in_front, with_environment}
use Rattle.tx_private.specs.Readings.{Kind, Expanded, Body, ExpandedBody, OptionalEquals, Number, DimensionOf, GlueOf, Keyword, ListValue, Value, Unexpandable, Tokens, Amount, Word, Nothing, Item, Tok, End, Given, Move, Take, Sub, Again, Done, Bad}
use Rattle.tx_private.specs.Quantities.{is_math_parameter, quantity_at, in_byte, byte_first, register_of, codes_of}
use Rattle.tx_private.specs.Lists.{is_space, is_equals, storing}

-- what may stand before an assignment
pub record Prefixes : Type 0 where
  pub global : Bool
  pub long : Bool
  pub protected : Bool

abbrev pub no_prefix : Prefixes
no_prefix = record { global = false; long = false; protected = false }

-- \globaldefs above 0 makes all assignments global, below 0 all local
abbrev pub globally : ℤ → Bool → Bool
globally (pos zero) global = global
globally (pos (suc n)) global = true
globally (negsuc n) global = false

-- an address is given a meaning
abbrev pub assigned : Prefixes → Address → Meaning → World → World
assigned p at m w =
    with_environment (assigning (globally (parameter_of w.environment GlobalDefs) p.global) at m w.environment) w

-- the token that \afterassignment keeps, if it keeps one, is put in front
abbrev pub release : Option Token → World → World
release None w = w
release (Some t) w = put_in_front (t ∷ []) (record w { kept = None })

-- the end of an assignment
abbrev pub assigns : Prefixes → Address → Meaning → World → Move
assigns p at m w = Again (release w.kept (assigned p at m w))

-- how the value of an address is read
abbrev pub kind_of_register : Register → Kind
kind_of_register Count = Number
kind_of_register Dimen = DimensionOf false
kind_of_register Skip = GlueOf false
kind_of_register MuSkip = GlueOf true
kind_of_register Toks = ListValue

abbrev pub kind_at : Address → Kind
kind_at (OfRegister kind n) = kind_of_register kind
kind_at (OfDimension p) = DimensionOf false
kind_at (OfGlue p) = GlueOf (is_math_parameter p)
kind_at (OfList p) = ListValue
kind_at _ = Number

-- the greatest code of a table
abbrev pub greatest : CodeTable → ℕ
greatest CatCodes = 15
greatest LowerCases = 255
greatest UpperCases = 255
greatest SpaceFactors = 32767
greatest MathCodes = 32768
greatest DelimiterCodes = 16777215

-- a code is from 0 to the greatest one; a delimiter code may be below 0
abbrev pub code_within : CodeTable → ℤ → Move → World → Move
code_within DelimiterCodes (pos n) further w = if nat_le n 16777215 then further else Bad (beyond 18 1 (pos n) 16777215) w
code_within DelimiterCodes (negsuc n) further w = further
code_within table (pos n) further w = if nat_le n (greatest table) then further else Bad (beyond 18 0 (pos n) (greatest table)) w
code_within table (negsuc n) further w = Bad (beyond 18 0 (negsuc n) (greatest table)) w

-- a value as the meaning of an address, which leads on
abbrev pub as_meaning : Address → Value → (Meaning → Move) → World → Move
as_meaning (OfCode table b) (Amount (quant.Int n)) further w = code_within table n (further (Integer n)) w
as_meaning at (Amount (quant.Int n)) further w = further (Integer n)
as_meaning at (Amount (quant.Dim d)) further w = further (Dimension d)
as_meaning at (Amount (quant.Glue g)) further w = further (Glue g)
as_meaning at (Amount (quant.Mu g)) further w = further (Glue g)
as_meaning at (Tokens tokens) further w = further (meaning.Tokens tokens)
as_meaning at _ further w = Bad (plain 63) w

-- an optional equals sign and the value
abbrev pub assign_at : Prefixes → Address → List Item → World → Move
assign_at p at [] w = Sub OptionalEquals w
assign_at p at (Given Nothing ∷ []) w = Sub (kind_at at) w
assign_at p at (Given Nothing ∷ Given v ∷ items) w = as_meaning at v (λ m. assigns p at m w) w
assign_at p at _ w = Bad (plain 63) w

-- the address of a name or of an active character
abbrev pub name_address : Token → Option Address
name_address (Name text) = Some (OfName text)
name_address (Active b) = Some (OfActive b)
name_address _ = None

abbrev pub is_space_token : Token → Bool
is_space_token (Char cat.Space b) = true
is_space_token _ = false

abbrev pub if_name : Option Address → (Address → Move) → World → Move
if_name None further w = Bad (plain 24) w
if_name (Some at) further w = further at

-- A name is taken as it stands, behind space tokens; what comes after it leads on.
abbrev pub named : (Address → List Item → World → Move) → List Item → World → Move
named further [] w = Take w
named further (Tok c ∷ items) w =
    if is_space_token c.token then named further items w else if_name (name_address c.token) (λ at. further at items w) w
named further _ w = Bad (plain 24) w

-- the body of a definition, expanded or as it stands
abbrev pub body_kind : Bool → Kind
body_kind true = ExpandedBody
body_kind false = Body

-- a definition without parameters: its left brace stands directly behind the name
abbrev pub defined : Prefixes → Bool → Address → List Item → World → Move
defined p expands at [] w = Take w
defined p expands at (Tok c ∷ []) w = if is_left_brace c.token then Sub (body_kind expands) w else Bad (plain 63) w
defined p expands at (Tok c ∷ Given (Tokens body) ∷ items) w =
    storing body w (λ v. assigns p at (Macro' (record { long = p.long; protected = p.protected; body = body })) v)
defined p expands at _ w = Bad (plain 63) w

-- \let: the meaning of the token behind an equals sign, which may be missing, and a space
abbrev pub let_last : Prefixes → Address → List Item → World → Move
let_last p at [] w = Take w
let_last p at (Tok c ∷ items) w = assigns p at c.meaning w
let_last p at _ w = Bad (plain 24) w

abbrev pub let_behind_equals : Prefixes → Address → List Item → World → Move
let_behind_equals p at [] w = Take w
let_behind_equals p at (Tok c ∷ items) w = if is_space c.meaning then let_last p at items w else assigns p at c.meaning w
let_behind_equals p at _ w = Bad (plain 24) w

abbrev pub let_to : Prefixes → Address → List Item → World → Move
let_to p at [] w = Take w
let_to p at (Tok c ∷ items) w =
    if is_space c.meaning then let_to p at items w
    else if is_equals c.token then let_behind_equals p at items w
    else assigns p at c.meaning w
let_to p at _ w = Bad (plain 24) w

-- \futurelet: the meaning of the second token; both are put back
abbrev pub future_let : Prefixes → Address → List Item → World → Move
future_let p at [] w = Take w
future_let p at (Tok c ∷ []) w = Take w
future_let p at (Tok c ∷ Tok d ∷ items) w = assigns p at d.meaning (put_in_front (c.token ∷ d.token ∷ []) w)
future_let p at _ w = Bad (plain 24) w

-- a name that stands for a number below a limit: while the number is read it means \relax
abbrev pub stands_for : Prefixes → ℕ → (ℤ → World → (ℕ → Move) → Move) → (ℕ → Meaning) → Address → List Item → World → Move
stands_for p limit within what at [] w = Sub OptionalEquals (assigned p at (Prim (primitive.Command command.Relax)) w)
stands_for p limit within what at (Given Nothing ∷ []) w = Sub Number w
stands_for p limit within what at (Given Nothing ∷ Given (Amount (quant.Int v)) ∷ items) w =
    within v w (λ n. assigns p at (what n) w)
stands_for p limit within what at _ w = Bad (plain 63) w

-- a number from 0 to 255, or this error
abbrev pub byte_or : ℕ → ℤ → World → (ℕ → Move) → Move
byte_or error v w further = in_byte error v further w

abbrev pub math_character : ℤ → World → (ℕ → Move) → Move
math_character (pos n) w further = if nat_lt n 32768 then further n else Bad (numbered 17 1 (pos n)) w
math_character (negsuc n) w further = Bad (numbered 17 1 (negsuc n)) w
