-- Internal quantities. *TeX: The Program*, section 413.
use Rattle.std.specs.Prelude.{ℕ, ℤ, pos, negsuc, nat_lt, not, Bool, true, false, List, [], ◌∷◌, if◌then◌else◌}
use Rattle.tx_num.specs.declared.quantities.Quant.{Quant}
use Rattle.tx_num.specs.declared.quantities.Quant.TheVariants as quant
use Rattle.tx_prims.specs.declared.primitives.Primitive.{Primitive}
use Rattle.tx_prims.specs.declared.primitives.Primitive.TheVariants as primitive
use Rattle.tx_prims.specs.declared.primitives.Assignment.{Assignment}
use Rattle.tx_prims.specs.declared.primitives.Assignment.TheVariants as assignment
use Rattle.tx_prims.specs.declared.primitives.GlueParameter.{GlueParameter}
use Rattle.tx_prims.specs.declared.primitives.GlueParameter.TheVariants as glue
use Rattle.tx_private.specs.Errors.{plain, numbered}
use Rattle.tx_private.specs.Meanings.{Register, Count, Dimen, Skip, MuSkip, Toks, CodeTable, CatCodes, LowerCases, UpperCases, SpaceFactors, MathCodes, DelimiterCodes, Address, OfRegister, OfCode, OfInteger, OfDimension, OfGlue, Meaning, Prim, Code, Register', Integer, Dimension, Glue}
use Rattle.tx_private.specs.Environment.{present}
use Rattle.tx_private.specs.World.{World}
use Rattle.tx_private.specs.Readings.{Number, Amount, Item, Given, Move, Sub, Done, Bad}

-- math glue is measured in mu
abbrev pub is_math_parameter : GlueParameter → Bool
is_math_parameter glue.ThinMuSkip = true
is_math_parameter glue.MedMuSkip = true
is_math_parameter glue.ThickMuSkip = true
is_math_parameter _ = false

abbrev pub is_math : Address → Bool
is_math (OfRegister MuSkip n) = true
is_math (OfGlue p) = is_math_parameter p
is_math _ = false

-- what stands at an address, as a quantity
abbrev pub quantity_in : Bool → Meaning → Quant
quantity_in math (Integer n) = quant.Int n
quantity_in math (Dimension d) = quant.Dim d
quantity_in math (Glue g) = if math then quant.Mu g else quant.Glue g
quantity_in math _ = quant.Int (pos 0)

abbrev pub quantity_at : Address → World → Quant
quantity_at at w = quantity_in (is_math at) (present w.environment at)

abbrev pub gives : Address → World → Move
gives at w = Done (Amount (quantity_at at w)) w

-- A number from 0 to 255 is asked for, which leads on; another one is this error.
abbrev pub in_byte : ℕ → ℤ → (ℕ → Move) → World → Move
in_byte error (pos n) further w = if nat_lt n 256 then further n else Bad (numbered error 0 (pos n)) w
in_byte error (negsuc n) further w = Bad (numbered error 0 (negsuc n)) w

-- the number of a register or of a byte, which is read first
abbrev pub byte_first : ℕ → (ℕ → List Item → World → Move) → List Item → World → Move
byte_first error further [] w = Sub Number w
byte_first error further (Given (Amount (quant.Int v)) ∷ items) w = in_byte error v (λ n. further n items w) w
byte_first error further _ w = Bad (plain 63) w

-- the registers and the tables of codes
abbrev pub register_of : Assignment → (Register → Move) → Move → Move
register_of assignment.Count at other = at Count
register_of assignment.Dimen at other = at Dimen
register_of assignment.Skip at other = at Skip
register_of assignment.MuSkip at other = at MuSkip
register_of assignment.Toks at other = at Toks
register_of _ at other = other

abbrev pub codes_of : Assignment → (CodeTable → Move) → Move → Move
codes_of assignment.CatCode at other = at CatCodes
codes_of assignment.LcCode at other = at LowerCases
codes_of assignment.UcCode at other = at UpperCases
codes_of assignment.SfCode at other = at SpaceFactors
codes_of assignment.MathCode at other = at MathCodes
codes_of assignment.DelCode at other = at DelimiterCodes
codes_of _ at other = other

-- the values of the family that begin no quantity
abbrev pub begins_none : Assignment → Bool
begins_none assignment.Def = true
begins_none assignment.EDef = true
begins_none assignment.GDef = true
begins_none assignment.XDef = true
begins_none assignment.Let = true
begins_none assignment.FutureLet = true
begins_none assignment.CharDef = true
begins_none assignment.MathCharDef = true
begins_none assignment.CountDef = true
begins_none assignment.DimenDef = true
begins_none assignment.SkipDef = true
begins_none assignment.MuSkipDef = true
begins_none assignment.ToksDef = true
begins_none assignment.Advance = true
begins_none assignment.Multiply = true
begins_none assignment.Divide = true
begins_none assignment.Global = true
begins_none assignment.Long = true
begins_none assignment.Protected = true
begins_none assignment.Toks = true
begins_none assignment.SetBox = true
begins_none assignment.Font = true
begins_none assignment.TextFont = true
begins_none assignment.ScriptFont = true
begins_none assignment.ScriptScriptFont = true
begins_none assignment.NullFont = true
begins_none assignment.Hyphenation = true
begins_none assignment.Patterns = true
begins_none _ = false

abbrev pub is_list_register : Register → Bool
is_list_register Toks = true
is_list_register _ = false

-- whether a quantity begins with a command of this meaning
abbrev pub begins_quantity : Meaning → Bool
begins_quantity (Code math n) = true
begins_quantity (Register' kind n) = not (is_list_register kind)
begins_quantity (Prim (primitive.Assignment a)) = not (begins_none a)
begins_quantity (Prim (primitive.IntegerParameter p)) = true
begins_quantity (Prim (primitive.DimensionParameter p)) = true
begins_quantity (Prim (primitive.GlueParameter p)) = true
begins_quantity _ = false

-- the quantity of a command of the family of assignments
abbrev pub assigned_quantity : Assignment → List Item → World → Move
assigned_quantity a items w =
    register_of a (λ kind. byte_first 15 (λ n rest v. gives (OfRegister kind n) v) items w)
    (codes_of a (λ table. byte_first 16 (λ b rest v. gives (OfCode table b) v) items w) (Bad (plain 63) w))

-- the quantity that begins with a command of this meaning
abbrev pub quantity_from : Meaning → List Item → World → Move
quantity_from (Code math n) items w = Done (Amount (quant.Int (pos n))) w
quantity_from (Register' kind n) items w = gives (OfRegister kind n) w
quantity_from (Prim (primitive.Assignment a)) items w = assigned_quantity a items w
quantity_from (Prim (primitive.IntegerParameter p)) items w = gives (OfInteger p) w
quantity_from (Prim (primitive.DimensionParameter p)) items w = gives (OfDimension p) w
quantity_from (Prim (primitive.GlueParameter p)) items w = gives (OfGlue p) w
quantity_from _ items w = Bad (plain 63) w
