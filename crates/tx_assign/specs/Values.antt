-- Values, as the definitions have them.
use Rattle.std.specs.Prelude.{◌≤◌, ℤ, pos, negsuc, false}
use Rattle.tx_num.specs.declared.quantities.Quant.{Quant}
use Rattle.tx_num.specs.declared.quantities.Quant.TheVariants as quant
use Rattle.tx_eqtb.specs.declared.meaning.Meaning.{Meaning}
use Rattle.tx_eqtb.specs.declared.meaning.Meaning.TheVariants as meaning
use Rattle.tx_private.specs.Readings as readings
use Rattle.tx_private.specs.Meanings as private
use Rattle.tx_private.specs.Assignments.{greatest}
use Rattle.tx_views.specs.declared.place.CodeTable.{CodeTable}
use Rattle.tx_views.specs.declared.place.CodeTable.TheVariants as table
use Rattle.tx_views.specs.declared.place.Place.{Place}
use Rattle.tx_views.specs.declared.place.Place.TheVariants as place
use Rattle.tx_views.specs.Places.{table_in}
use Rattle.tx_assign.specs.declared.kinds.ValueKind.{ValueKind}
use Rattle.tx_assign.specs.declared.kinds.ValueKind.TheVariants as kind

-- the reading that reads a value of the kind
abbrev pub kind_in : ValueKind → readings.Kind
kind_in kind.Number = readings.Number
kind_in kind.Dimension = readings.DimensionOf false
kind_in (kind.Glue mu) = readings.GlueOf mu
kind_in kind.List = readings.ListValue

-- a quantity as a meaning
abbrev pub quantity_meaning : Quant → private.Meaning
quantity_meaning (quant.Int n) = private.Integer n
quantity_meaning (quant.Dim d) = private.Dimension d
quantity_meaning (quant.Glue g) = private.Glue g
quantity_meaning (quant.Mu g) = private.Glue g

-- an integer, a dimension or glue, which hold no list
abbrev pub IsAmount : {B : Type 0} → Meaning B → Type 0
IsAmount (meaning.Int n) = Unit {0}
IsAmount (meaning.Dim d) = Unit {0}
IsAmount (meaning.Glue g) = Unit {0}
IsAmount _ = ⊥

-- a code of the table: it is from 0 to the greatest one; a delimiter code may be below 0
abbrev pub IsCode : CodeTable → ℤ → Type 0
IsCode table.DelimiterCodes (pos n) = n ≤ greatest private.DelimiterCodes
IsCode table.DelimiterCodes (negsuc n) = Unit {0}
IsCode t (pos n) = n ≤ greatest (table_in t)
IsCode t (negsuc n) = ⊥

-- an integer from 0 to 15, which is the number of a category
abbrev pub IsCategory : {B : Type 0} → Meaning B → Type 0
IsCategory (meaning.Int n) = IsCode table.Categories n
IsCategory _ = ⊥

-- the code of a byte's category that is given an integer becomes the number of a category
abbrev pub IsCategoryAt : {B : Type 0} → Place → Quant → Meaning B → Type 0
IsCategoryAt (place.Code table.Categories b) (quant.Int n) m = IsCategory m
IsCategoryAt _ _ m = Unit {0}
