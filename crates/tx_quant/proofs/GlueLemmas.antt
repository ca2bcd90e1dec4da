use Rattle.std.proofs.Common.{◌≡◌, false, ℤ, List, [], ◌∷◌, ◌⊎◌, inl, inr, ◌∙◌}
use Rattle.tx_num.specs.declared.glue.GlueSpec.{GlueSpec}
use Rattle.tx_num.specs.declared.quantities.Quant.{Quant}
use Rattle.tx_num.specs.declared.quantities.Quant.TheVariants as quant
use Rattle.tx_quant.specs.declared.next.Next.{Next}
use Rattle.tx_quant.specs.declared.next.Next.TheVariants as next
use Rattle.tx_quant.specs.declared.setting.Setting.{Setting}
use Rattle.tx_quant.specs.declared.dimension_stage.DimStage.TheVariants.{Sign}
use Rattle.tx_quant.specs.declared.glue_stage.GlueStage.{GlueStage}
use Rattle.tx_quant.specs.declared.glue_stage.GlueStage.TheVariants.{Start, Width}
use Rattle.tx_quant.specs.Items.{Item, Quantity, Reading}
use Rattle.tx_quant.specs.Nexts.{Follows}
use Rattle.tx_quant.specs.GlueStates.{glue_at}

-- an answer to one reading is one to a reading that says the same from this item on
follows_alike : (s : Setting) (answer : Next GlueStage GlueSpec) (old other : Reading GlueSpec) (item : Item) → ((items : List Item) → other (item ∷ items) ≡ old (item ∷ items)) → Follows (glue_at s) answer old item → Follows (glue_at s) answer other item
follows_alike s (next.More stage back) old other item same goes = record {
  is_open = goes.is_open;
  asks = same [] ∙ goes.asks;
  later = λ x items. same (x ∷ items) ∙ goes.later x items;
}
follows_alike s (next.Done v back) old other item same done = λ items. same items ∙ done items
follows_alike s (next.Bad error) old other item same bad = λ items. same items ∙ bad items

-- a quantity that is no glue begins a width
quantity_begins : (s : Setting) (q : Quant) → ((n : ℤ) × (q ≡ quant.Int n)) ⊎ ((d : ℤ) × (q ≡ quant.Dim d)) → (items : List Item) → glue_at s Start (Quantity q ∷ items) ≡ glue_at s (Width (Sign false)) (Quantity q ∷ items)
quantity_begins s q (inl (n, is)) items = rw is
quantity_begins s q (inr (d, is)) items = rw is

pub begins_width : (s : Setting) (answer : Next GlueStage GlueSpec) (q : Quant) → ((n : ℤ) × (q ≡ quant.Int n)) ⊎ ((d : ℤ) × (q ≡ quant.Dim d)) → Follows (glue_at s) answer (glue_at s (Width (Sign false))) (Quantity q) → Follows (glue_at s) answer (glue_at s Start) (Quantity q)
begins_width s answer q is = follows_alike s answer _ _ _ (quantity_begins s q is)
