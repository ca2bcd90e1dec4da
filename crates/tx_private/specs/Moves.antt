-- What each reading does next, given the items that it was given so far.
use Rattle.std.specs.Prelude.{ℕ, zero, ℤ, pos, Bool, false, true, List, []}
use Rattle.tx_num.specs.declared.quantities.Quant.TheVariants as quant
use Rattle.tx_num.specs.declared.glue.GlueSpec.{GlueSpec}
use Rattle.tx_quant.specs.Numbers.{number}
use Rattle.tx_quant.specs.Dimensions.{dimension_value}
use Rattle.tx_quant.specs.Glues.{glue_value}
use Rattle.tx_quant.specs.Keywords.{keyword}
use Rattle.tx_private.specs.World.{World}
use Rattle.tx_private.specs.Readings.{Kind, Control, Expanded, ExpandedInText, Balanced, ExpandedBalanced, Body, ExpandedBody, LeftBrace, OptionalEquals, Number, DimensionOf, GlueOf, Keyword, QuantityFrom, ListValue, Value, Amount, Word, Item, Move, Take, Sub}
use Rattle.tx_private.specs.Scans.{scan}
use Rattle.tx_private.specs.Quantities.{begins_quantity, quantity_from}
use Rattle.tx_private.specs.Expansions.{expanded}
use Rattle.tx_private.specs.Lists.{balanced, left_brace, optional_equals, list_value}
use Rattle.tx_private.specs.Controls.{control}

-- the font \nullfont has no em and no ex
abbrev pub em : ℤ
em = pos 0

abbrev pub ex : ℤ
ex = pos 0

abbrev pub glue_amount : Bool → GlueSpec → Value
glue_amount true g = Amount (quant.Mu g)
glue_amount false g = Amount (quant.Glue g)

-- no quantity begins where a keyword is looked for
abbrev pub none : {A : Type 0} → A → Bool
none a = false

unfoldable pub move_in : Kind → List Item → World → Move
move_in Control items w = control items w
move_in Expanded items w = expanded false items w
move_in ExpandedInText items w = expanded true items w
move_in Balanced items w = balanced false Take zero [] items w
move_in ExpandedBalanced items w = balanced false (Sub ExpandedInText) zero [] items w
move_in Body items w = balanced true Take zero [] items w
move_in ExpandedBody items w = balanced true (Sub ExpandedInText) zero [] items w
move_in LeftBrace items w = left_brace items w
move_in OptionalEquals items w = optional_equals items w
move_in Number items w = scan begins_quantity number (λ v. Amount (quant.Int v)) items w
move_in (DimensionOf mu) items w = scan begins_quantity (dimension_value mu em ex) (λ v. Amount (quant.Dim v)) items w
move_in (GlueOf mu) items w = scan begins_quantity (glue_value mu em ex) (glue_amount mu) items w
move_in (Keyword set) items w = scan none (keyword set) Word items w
move_in (QuantityFrom command) items w = quantity_from command.meaning items w
move_in ListValue items w = list_value items w
