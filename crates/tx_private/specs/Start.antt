-- The states in which a preamble and, without one, a session begin.
use Rattle.std.specs.Prelude.{ℕ, ℤ, pos, negsuc, ◌==◌, ◌||◌, ◌&&◌, ◌+◌, ◌-◌, ◌*◌, nat_le, List, [], Option, Some, None, if◌then◌else◌}
use Rattle.std.specs.Char.{is_ascii_alphabetic, is_ascii_lowercase, is_ascii_uppercase, is_ascii_digit}
use Rattle.tx_num.specs.declared.glue.GlueSpec.{GlueSpec}
use Rattle.tx_num.specs.declared.glue.Order.TheVariants as order
use Rattle.tx_prims.specs.declared.primitives.Primitive.{Primitive}
use Rattle.tx_prims.specs.Primitives.{primitive_named}
use Rattle.tx_prims.specs.declared.primitives.IntegerParameter.{IntegerParameter}
use Rattle.tx_prims.specs.declared.primitives.IntegerParameter.TheVariants as integer
use Rattle.tx_prims.specs.declared.primitives.DimensionParameter.{DimensionParameter}
use Rattle.tx_prims.specs.declared.primitives.DimensionParameter.TheVariants as dimension
use Rattle.tx_prims.specs.declared.primitives.GlueParameter.{GlueParameter}
use Rattle.tx_prims.specs.declared.primitives.GlueParameter.TheVariants as glue
use Rattle.tx_private.specs.Meanings.{Register, Count, Dimen, Skip, MuSkip, Toks, CodeTable, CatCodes, LowerCases, UpperCases, SpaceFactors, MathCodes, DelimiterCodes, Address, OfName, OfActive, OfRegister, OfCode, OfInteger, OfDimension, OfGlue, OfList, Meaning, Undefined, Prim, Integer, Dimension, Glue, Tokens, Map}

-- glue of a width alone
abbrev pub width : ℤ → GlueSpec
width w = record { width = w; stretch = pos 0; stretch_order = order.Finite; shrink = pos 0; shrink_order = order.Finite }

-- so many points, in sp
abbrev pub points : ℕ → ℤ
points n = pos (n * 65536)

-- the primitives have their names
abbrev pub primitive_or_undefined : Option Primitive → Meaning
primitive_or_undefined None = Undefined
primitive_or_undefined (Some p) = Prim p

abbrev pub start_register : Register → Meaning
start_register Count = Integer (pos 0)
start_register Dimen = Dimension (pos 0)
start_register Skip = Glue (width (pos 0))
start_register MuSkip = Glue (width (pos 0))
start_register Toks = Tokens []

-- the category codes of the start, and those of BARE
abbrev pub start_category : ℕ → ℕ
start_category b =
    if is_ascii_alphabetic b then 11
    else if b == 92 then 0
    else if b == 37 then 14
    else if b == 13 then 5
    else if b == 32 then 10
    else if b == 0 then 9
    else if b == 127 then 15
    else 12

abbrev pub bare_category : ℕ → ℕ
bare_category b =
    if b == 123 then 1
    else if b == 125 then 2
    else if b == 36 then 3
    else if b == 38 then 4
    else if b == 35 then 6
    else if b == 94 then 7
    else if b == 95 then 8
    else if b == 9 then 10
    else start_category b

-- the codes of a byte besides its category
abbrev pub start_code : CodeTable → ℕ → ℤ
start_code CatCodes b = pos (start_category b)
start_code LowerCases b = if is_ascii_lowercase b then pos b else if is_ascii_uppercase b then pos (b + 32) else pos 0
start_code UpperCases b = if is_ascii_uppercase b then pos b else if is_ascii_lowercase b then pos (b - 32) else pos 0
start_code SpaceFactors b = if is_ascii_uppercase b then pos 999 else pos 1000
start_code MathCodes b = if is_ascii_alphabetic b then pos (28928 + b) else if is_ascii_digit b then pos (28672 + b) else pos b
start_code DelimiterCodes b = if b == 46 then pos 0 else negsuc 0

abbrev pub start_integer : IntegerParameter → ℤ
start_integer integer.Tolerance = pos 10000
start_integer integer.HangAfter = pos 1
start_integer integer.MaxDeadCycles = pos 25
start_integer integer.EscapeChar = pos 92
start_integer integer.EndLineChar = pos 13
start_integer integer.NewLineChar = negsuc 0
start_integer integer.Time = pos 720
start_integer integer.Day = pos 4
start_integer integer.Month = pos 7
start_integer integer.Year = pos 1776
start_integer _ = pos 0

-- registers and parameters are 0 or empty at the start, but for these
abbrev pub start_map : Map
start_map (OfName text) = primitive_or_undefined (primitive_named text)
start_map (OfActive b) = Undefined
start_map (OfRegister kind n) = start_register kind
start_map (OfCode table b) = Integer (start_code table b)
start_map (OfInteger p) = Integer (start_integer p)
start_map (OfDimension p) = Dimension (pos 0)
start_map (OfGlue p) = Glue (width (pos 0))
start_map (OfList p) = Tokens []

abbrev pub bare_integer : IntegerParameter → ℤ
bare_integer integer.PreTolerance = pos 100
bare_integer integer.Tolerance = pos 200
bare_integer integer.LinePenalty = pos 10
bare_integer integer.HBadness = pos 1000
bare_integer integer.VBadness = pos 1000
bare_integer integer.LeftHyphenMin = pos 2
bare_integer integer.RightHyphenMin = pos 3
bare_integer integer.DefaultHyphenChar = pos 45
bare_integer integer.DefaultSkewChar = negsuc 0
bare_integer p = start_integer p

-- 0.1pt is 6554sp
abbrev pub bare_dimension : DimensionParameter → ℤ
bare_dimension dimension.HSize = points 345
bare_dimension dimension.VSize = points 550
bare_dimension dimension.ParIndent = points 20
bare_dimension dimension.MaxDepth = points 2
bare_dimension dimension.HFuzz = pos 6554
bare_dimension dimension.VFuzz = pos 6554
bare_dimension _ = pos 0

abbrev pub bare_glue : GlueParameter → GlueSpec
bare_glue glue.BaselineSkip = width (points 12)
bare_glue glue.LineSkip = width (points 1)
bare_glue glue.TopSkip = width (points 10)
bare_glue glue.ParFillSkip = record (width (pos 0)) { stretch = points 1; stretch_order = order.Fil }
bare_glue _ = width (pos 0)

-- the state BARE: braces and the like have their categories, and some parameters their values
abbrev pub bare_map : Map
bare_map (OfCode CatCodes b) = Integer (pos (bare_category b))
bare_map (OfInteger p) = Integer (bare_integer p)
bare_map (OfDimension p) = Dimension (bare_dimension p)
bare_map (OfGlue p) = Glue (bare_glue p)
bare_map at = start_map at
