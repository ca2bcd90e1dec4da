-- Quantities and meanings as tokens. *TeX: The Program*, sections 465 to 471.
use Rattle.std.specs.Prelude.{ℕ, zero, ℤ, pos, ◌==◌, List, [], ◌∷◌, ◌++◌, map, codes, if◌then◌else◌}
use Rattle.tx_model.specs.declared.category.Cat.TheVariants as cat
use Rattle.tx_model.specs.Tokens.{Token, Char}
use Rattle.tx_num.specs.Decimals.{shown_sp}
use Rattle.tx_num.specs.declared.glue.GlueSpec.{GlueSpec}
use Rattle.tx_num.specs.declared.glue.Order.{Order}
use Rattle.tx_num.specs.declared.glue.Order.TheVariants as order
use Rattle.tx_num.specs.declared.quantities.Quant.{Quant}
use Rattle.tx_num.specs.declared.quantities.Quant.TheVariants as quant
use Rattle.tx_private.specs.Errors.{decimal_of}

-- the tokens of a text are other characters, and spaces
abbrev pub token_of_byte : ℕ → Token
token_of_byte b = if b == 32 then Char cat.Space 32 else Char cat.Other b

abbrev pub tokens_of : List ℕ → List Token
tokens_of text = map token_of_byte text

-- the unit of an order of infinity, in place of that of the finite part
abbrev pub unit_of : Order → List ℕ → List ℕ
unit_of order.Finite unit = unit
unit_of order.Fil unit = codes "fil"
unit_of order.Fill unit = codes "fill"
unit_of order.Filll unit = codes "filll"

-- a part of glue that is not 0
abbrev pub part_text : List ℕ → ℤ → Order → List ℕ → List ℕ
part_text word (pos zero) o unit = []
part_text word amount o unit = word ++ shown_sp amount ++ unit_of o unit

abbrev pub glue_text : GlueSpec → List ℕ → List ℕ
glue_text g unit =
    shown_sp g.width ++ unit ++ part_text (codes " plus ") g.stretch g.stretch_order unit ++ part_text (codes " minus ") g.shrink g.shrink_order unit

-- the text that \the gives of a quantity
abbrev pub quantity_text : Quant → List ℕ
quantity_text (quant.Int n) = decimal_of n
quantity_text (quant.Dim d) = shown_sp d ++ codes "pt"
quantity_text (quant.Glue g) = glue_text g (codes "pt")
quantity_text (quant.Mu g) = glue_text g (codes "mu")
