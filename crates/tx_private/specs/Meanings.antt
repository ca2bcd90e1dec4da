-- Meanings, and what has one. The TeXbook, chapters 20 and 24.
use Rattle.std.specs.Prelude.{ℕ, ℤ, ◌==◌, ◌&&◌, Bool, true, false, List, [], ◌∷◌, if◌then◌else◌}
use Rattle.std.specs.Str.{bytes_eq}
use Rattle.tx_model.specs.declared.category.Cat.{Cat}
use Rattle.tx_model.specs.Tokens.{Token}
use Rattle.tx_num.specs.declared.glue.GlueSpec.{GlueSpec}
use Rattle.tx_prims.specs.declared.primitives.Primitive.{Primitive}
use Rattle.tx_prims.specs.declared.primitives.IntegerParameter.{IntegerParameter}
use Rattle.tx_prims.specs.declared.primitives.DimensionParameter.{DimensionParameter}
use Rattle.tx_prims.specs.declared.primitives.GlueParameter.{GlueParameter}
use Rattle.tx_prims.specs.declared.primitives.ListParameter.{ListParameter}
use Rattle.tx_prims.specs.contracts.primitives.IntegerParameterPartialEq.TheImpl as integers
use Rattle.tx_prims.specs.contracts.primitives.DimensionParameterPartialEq.TheImpl as dimensions
use Rattle.tx_prims.specs.contracts.primitives.GlueParameterPartialEq.TheImpl as glues
use Rattle.tx_prims.specs.contracts.primitives.ListParameterPartialEq.TheImpl as lists

-- the kinds of register that a name can stand for
pub data Register : Type 0 where
  Count : Register
  Dimen : Register
  Skip : Register
  MuSkip : Register
  Toks : Register

-- the tables that give each byte a code
pub data CodeTable : Type 0 where
  CatCodes : CodeTable
  LowerCases : CodeTable
  UpperCases : CodeTable
  SpaceFactors : CodeTable
  MathCodes : CodeTable
  DelimiterCodes : CodeTable

-- what has a meaning
pub data Address : Type 0 where
  OfName : List ℕ → Address
  OfActive : ℕ → Address
  OfRegister : Register → ℕ → Address
  -- the code of a byte
  OfCode : CodeTable → ℕ → Address
  OfInteger : IntegerParameter → Address
  OfDimension : DimensionParameter → Address
  OfGlue : GlueParameter → Address
  OfList : ListParameter → Address

-- a macro without parameters: what it stands for, and its flags
pub record Macro : Type 0 where
  pub long : Bool
  pub protected : Bool
  pub body : List Token

pub data Meaning : Type 0 where
  Undefined : Meaning
  Prim : Primitive → Meaning
  Macro' : Macro → Meaning
  -- that of a character, or of a name that is let to one
  Character : Cat → ℕ → Meaning
  -- a name that stands for a character's code, or for a math code
  Code : Bool → ℕ → Meaning
  -- a name that stands for a register
  Register' : Register → ℕ → Meaning
  Integer : ℤ → Meaning
  Dimension : ℤ → Meaning
  Glue : GlueSpec → Meaning
  -- a list of tokens
  Tokens : List Token → Meaning

abbrev pub Map : Type 0
Map = Address → Meaning

abbrev pub same_register : Register → Register → Bool
same_register Count Count = true
same_register Dimen Dimen = true
same_register Skip Skip = true
same_register MuSkip MuSkip = true
same_register Toks Toks = true
same_register _ _ = false

abbrev pub same_table : CodeTable → CodeTable → Bool
same_table CatCodes CatCodes = true
same_table LowerCases LowerCases = true
same_table UpperCases UpperCases = true
same_table SpaceFactors SpaceFactors = true
same_table MathCodes MathCodes = true
same_table DelimiterCodes DelimiterCodes = true
same_table _ _ = false

-- whether two addresses are the same
abbrev pub same_address : Address → Address → Bool
same_address (OfName a) (OfName b) = bytes_eq a b
same_address (OfActive a) (OfActive b) = a == b
same_address (OfRegister k a) (OfRegister l b) = same_register k l && (a == b)
same_address (OfCode k a) (OfCode l b) = same_table k l && (a == b)
same_address (OfInteger a) (OfInteger b) = integers.ghosts.eq a b
same_address (OfDimension a) (OfDimension b) = dimensions.ghosts.eq a b
same_address (OfGlue a) (OfGlue b) = glues.ghosts.eq a b
same_address (OfList a) (OfList b) = lists.ghosts.eq a b
same_address _ _ = false

-- the map in which this address has this meaning
abbrev pub with_meaning : Address → Meaning → Map → Map
with_meaning at meaning map q = if same_address at q then meaning else map q
