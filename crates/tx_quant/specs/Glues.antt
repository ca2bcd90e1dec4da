-- Glue (TeX: The Program, sections 461 and 462).
use Rattle.std.specs.Prelude.{ℕ, Bool, false, true, if◌then◌else◌, ℤ, pos, List, [], ◌∷◌}
use Rattle.tx_num.specs.declared.glue.GlueSpec.{GlueSpec}
use Rattle.tx_num.specs.declared.glue.Order.TheVariants.{Finite}
use Rattle.tx_num.specs.declared.quantities.Want.TheVariants.{Expanded, Start}
use Rattle.tx_num.specs.declared.quantities.Quant.{Quant}
use Rattle.tx_num.specs.declared.quantities.Quant.TheVariants as quant
use Rattle.tx_quant.specs.declared.setting.Setting.{Setting}
use Rattle.tx_quant.specs.declared.size.Size.{Size}
use Rattle.tx_quant.specs.declared.stretched.Stretched.{Stretched}
use Rattle.tx_quant.specs.declared.word.Word.{Word}
use Rattle.tx_quant.specs.declared.keyword.KeySet.{KeySet}
use Rattle.tx_quant.specs.declared.keyword.KeySet.TheVariants as set
use Rattle.tx_quant.specs.Errors.{incompatible_units}
use Rattle.tx_quant.specs.Items.{Item, Token, Quantity, Letter, Move, Asks, Gives, Fails, Reading}
use Rattle.tx_quant.specs.Behinds.{and_then, after_putting_back}
use Rattle.tx_quant.specs.Spelling.{spell, nonblank}
use Rattle.tx_quant.specs.Keywords.{words_of}
use Rattle.tx_quant.specs.Dimensions.{dimension, size}

-- the stretch and the shrink may be infinite
abbrev pub with_infinite : Setting → Setting
with_infinite s = record s { infinite = true }

-- no stretch or shrink
abbrev pub nothing : Size
nothing = size (pos 0) Finite

-- the stretch or the shrink, behind its keyword
abbrev pub behind_keyword : Setting → (Size → ℕ → Reading GlueSpec) → Word → Reading GlueSpec
behind_keyword s next word items = and_then (dimension (with_infinite s) items) next

-- where its keyword does not stand, what was taken behind the spaces is put back
abbrev pub no_keyword : (Size → ℕ → Reading GlueSpec) → ℕ → Reading GlueSpec
no_keyword next taken items = next nothing taken items

-- a keyword and a dimension, or neither
abbrev pub part : Setting → KeySet → (Size → ℕ → Reading GlueSpec) → Reading GlueSpec
part s words next items =
    nonblank (Asks Expanded 0) (spell (behind_keyword s next) (no_keyword next) (words_of words) 0) items

-- glue of a width and a stretch, and of a shrink
abbrev pub glue_of : Stretched → Size → GlueSpec
glue_of g shrink = record {
  width = g.width;
  stretch = g.stretch;
  stretch_order = g.order;
  shrink = shrink.amount;
  shrink_order = shrink.order;
}

abbrev pub after_shrink : Stretched → Size → ℕ → Reading GlueSpec
after_shrink g shrink back items = Gives (glue_of g shrink) back

-- the shrink
abbrev pub shrink_part : Setting → Stretched → Reading GlueSpec
shrink_part s g items = part s set.Minus (after_shrink g) items

abbrev pub stretched : ℤ → Size → Stretched
stretched width stretch = record { width = width; stretch = stretch.amount; order = stretch.order }

abbrev pub after_stretch : Setting → ℤ → Size → ℕ → Reading GlueSpec
after_stretch s width stretch back items = after_putting_back back (shrink_part s (stretched width stretch)) items

-- the stretch, and the shrink behind it
abbrev pub stretch_part : Setting → ℤ → Reading GlueSpec
stretch_part s width items = part s set.Plus (after_stretch s width) items

abbrev pub after_width : Setting → Size → ℕ → Reading GlueSpec
after_width s width back items = after_putting_back back (stretch_part s width.amount) items

-- a width, a stretch and a shrink
abbrev pub parts : Setting → Reading GlueSpec
parts s items = and_then (dimension s items) (after_width s)

-- internal glue that stands first is the whole glue
abbrev pub first_quantity : Setting → Quant → List Item → Move GlueSpec
first_quantity s (quant.Int n) items = parts s (Quantity (quant.Int n) ∷ items)
first_quantity s (quant.Dim d) items = parts s (Quantity (quant.Dim d) ∷ items)
first_quantity s (quant.Glue g) items = if s.math then Fails incompatible_units else Gives g 0
first_quantity s (quant.Mu g) items = if s.math then Gives g 0 else Fails incompatible_units

-- what stands first, behind spaces
abbrev pub glue_from : Setting → Reading GlueSpec
glue_from s [] = Asks Start 0
glue_from s (Quantity q ∷ items) = first_quantity s q items
glue_from s (Letter c ∷ items) = parts s (Letter c ∷ items)
glue_from s (Token t ∷ items) = parts s (Token t ∷ items)

-- glue
abbrev pub glue : Setting → Reading GlueSpec
glue s items = nonblank (Asks Start 0) (glue_from s) items

-- glue measured in mu or not, with so much for an em and an ex
abbrev pub glue_value : Bool → ℤ → ℤ → Reading GlueSpec
glue_value mu em ex items = glue (record { math = mu; infinite = false; em = em; ex = ex }) items
