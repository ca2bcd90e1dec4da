-- \advance, \multiply and \divide. *TeX: The Program*, section 1236.
use Rattle.std.specs.Prelude.{ℕ, zero, suc, ℤ, pos, negsuc, ◌/◌, ◌+ℤ◌, ◌*ℤ◌, neg_ℤ, Bool, true, false, List, [], ◌∷◌, Option, Some, None, if◌then◌else◌}
use Rattle.std.specs.Option.{option_map}
use Rattle.tx_num.specs.Ranges.{integer, dimension}
use Rattle.tx_num.specs.declared.glue.GlueSpec.{GlueSpec}
use Rattle.tx_num.specs.declared.glue.Order.{Order}
use Rattle.tx_num.specs.declared.glue.Order.TheVariants as order
use Rattle.tx_num.specs.declared.quantities.Quant.{Quant}
use Rattle.tx_num.specs.declared.quantities.Quant.TheVariants as quant
use Rattle.tx_prims.specs.declared.primitives.Primitive.TheVariants as primitive
use Rattle.tx_prims.specs.declared.primitives.Assignment.{Assignment}
use Rattle.tx_prims.specs.declared.primitives.Assignment.TheVariants as assignment
use Rattle.tx_quant.specs.declared.keyword.KeySet.TheVariants.{By}
use Rattle.tx_private.specs.Errors.{plain, showing}
use Rattle.tx_private.specs.Meanings.{Register, Count, Dimen, Skip, MuSkip, Toks, Address, OfRegister, OfInteger, OfDimension, OfGlue, Meaning, Prim, Register', Integer, Dimension, Glue}
use Rattle.tx_private.specs.World.{World, Command}
use Rattle.tx_private.specs.Readings.{Kind, Expanded, Keyword, Number, Value, Unexpandable, Amount, Word, Item, Given, Move, Sub, Bad}
use Rattle.tx_private.specs.Described.{meaning_text}
use Rattle.tx_private.specs.Quantities.{quantity_at, byte_first}
use Rattle.tx_private.specs.Assignments.{Prefixes, assigns, kind_at}

-- what \advance does, or \multiply, or \divide
pub data Operation : Type 0 where
  Plus : Operation
  Times : Operation
  Over : Operation

-- an integer over another one, cut toward zero
abbrev pub cut_quotient : ℤ → ℤ → ℤ
cut_quotient (pos n) (pos d) = pos (n / d)
cut_quotient (pos n) (negsuc d) = neg_ℤ (pos (n / suc d))
cut_quotient (negsuc n) (pos d) = neg_ℤ (pos (suc n / d))
cut_quotient (negsuc n) (negsuc d) = pos (suc n / suc d)

-- Two amounts of orders of infinity: of different ones the higher counts alone; an amount of 0 is finite.
pub record Part : Type 0 where
  pub amount : ℤ
  pub infinity : Order

abbrev pub rank : Order → ℕ
rank order.Finite = 0
rank order.Fil = 1
rank order.Fill = 2
rank order.Filll = 3

abbrev pub part : ℤ → Order → Part
part (pos zero) o = record { amount = pos 0; infinity = order.Finite }
part v o = record { amount = v; infinity = o }

abbrev pub compared : Part → Part → ℕ → ℕ → Part
compared a b zero zero = record { amount = a.amount +ℤ b.amount; infinity = a.infinity }
compared a b zero (suc n) = b
compared a b (suc m) zero = a
compared a b (suc m) (suc n) = compared a b m n

abbrev pub sum_of : Part → Part → Part
sum_of a b = compared a b (rank a.infinity) (rank b.infinity)

-- each part of glue must be a dimension
abbrev pub in_range : Option ℤ → Option ℤ → Option ℤ → GlueSpec → Option GlueSpec
in_range (Some a) (Some b) (Some c) g = Some g
in_range _ _ _ g = None

abbrev pub glue_in_range : GlueSpec → Option GlueSpec
glue_in_range g = in_range (dimension g.width) (dimension g.stretch) (dimension g.shrink) g

abbrev pub glue_of : ℤ → Part → Part → GlueSpec
glue_of w stretch shrink = record { width = w; stretch = stretch.amount; stretch_order = stretch.infinity; shrink = shrink.amount; shrink_order = shrink.infinity }

abbrev pub glue_sum : GlueSpec → GlueSpec → GlueSpec
glue_sum g h =
    glue_of (g.width +ℤ h.width) (sum_of (part g.stretch g.stretch_order) (part h.stretch h.stretch_order)) (sum_of (part g.shrink g.shrink_order) (part h.shrink h.shrink_order))

-- the sum of a value and another of its kind, if it is in range
abbrev pub advanced : Quant → Quant → Option Meaning
advanced (quant.Int n) (quant.Int m) = option_map Integer (integer (n +ℤ m))
advanced (quant.Dim d) (quant.Dim e) = option_map Dimension (dimension (d +ℤ e))
advanced (quant.Glue g) (quant.Glue h) = option_map Glue (glue_in_range (glue_sum g h))
advanced (quant.Mu g) (quant.Mu h) = option_map Glue (glue_in_range (glue_sum g h))
advanced _ _ = None

abbrev pub in_parts : (ℤ → ℤ) → GlueSpec → GlueSpec
in_parts f g = record g { width = f g.width; stretch = f g.stretch; shrink = f g.shrink }

-- a value, each part of which is changed so
abbrev pub scaled : (ℤ → ℤ) → Quant → Option Meaning
scaled f (quant.Int n) = option_map Integer (integer (f n))
scaled f (quant.Dim d) = option_map Dimension (dimension (f d))
scaled f (quant.Glue g) = option_map Glue (glue_in_range (in_parts f g))
scaled f (quant.Mu g) = option_map Glue (glue_in_range (in_parts f g))

abbrev pub divided : ℤ → Quant → Option Meaning
divided (pos zero) q = None
divided n q = scaled (λ v. cut_quotient v n) q

abbrev pub result : Operation → Quant → Quant → Option Meaning
result Plus old v = advanced old v
result Times old (quant.Int n) = scaled (λ v. v *ℤ n) old
result Over old (quant.Int n) = divided n old
result _ old v = None

-- a result out of range is an overflow
abbrev pub assigns_result : Prefixes → Address → Option Meaning → World → Move
assigns_result p at None w = Bad (plain 14) w
assigns_result p at (Some m) w = assigns p at m w

abbrev pub operand : Operation → Address → Kind
operand Plus at = kind_at at
operand _ at = Number

-- the keyword `by`, which may be missing, and the operand
abbrev pub computes : Prefixes → Operation → Address → List Item → World → Move
computes p o at [] w = Sub (Keyword By) w
computes p o at (Given (Word k) ∷ []) w = Sub (operand o at) w
computes p o at (Given (Word k) ∷ Given (Amount v) ∷ items) w = assigns_result p at (result o (quantity_at at w) v) w
computes p o at _ w = Bad (plain 63) w

abbrev pub register_numbered : Prefixes → Operation → Register → List Item → World → Move
register_numbered p o kind items w = byte_first 15 (λ n rest v. computes p o (OfRegister kind n) rest v) items w

-- what can't be computed with
abbrev pub no_target : Meaning → World → Move
no_target m w = Bad (showing 20 0 (meaning_text w.environment m)) w

-- a register or a parameter with a value that can be computed with
abbrev pub target : Prefixes → Operation → Meaning → List Item → World → Move
target p o (Register' Toks n) items w = no_target (Register' Toks n) w
target p o (Register' kind n) items w = computes p o (OfRegister kind n) items w
target p o (Prim (primitive.Assignment assignment.Count)) items w = register_numbered p o Count items w
target p o (Prim (primitive.Assignment assignment.Dimen)) items w = register_numbered p o Dimen items w
target p o (Prim (primitive.Assignment assignment.Skip)) items w = register_numbered p o Skip items w
target p o (Prim (primitive.Assignment assignment.MuSkip)) items w = register_numbered p o MuSkip items w
target p o (Prim (primitive.IntegerParameter q)) items w = computes p o (OfInteger q) items w
target p o (Prim (primitive.DimensionParameter q)) items w = computes p o (OfDimension q) items w
target p o (Prim (primitive.GlueParameter q)) items w = computes p o (OfGlue q) items w
target p o m items w = no_target m w

abbrev pub arithmetic : Prefixes → Operation → List Item → World → Move
arithmetic p o [] w = Sub Expanded w
arithmetic p o (Given (Unexpandable c) ∷ items) w = target p o c.meaning items w
arithmetic p o _ w = Bad (plain 20) w
