-- What a dimension that is being read says of later items.
use Rattle.std.specs.Prelude.{◌≡◌, ℤ, List, Result, Ok, Err}
use Rattle.tx_num.specs.declared.quantities.ErrorNo.{ErrorNo}
use Rattle.tx_quant.specs.declared.setting.Setting.{Setting}
use Rattle.tx_quant.specs.declared.size.Size.{Size}
use Rattle.tx_quant.specs.declared.units.Unit.TheVariants as unit
use Rattle.tx_quant.specs.declared.units.UnitWord.{UnitWord}
use Rattle.tx_quant.specs.declared.units.UnitStep.{UnitStep}
use Rattle.tx_quant.specs.declared.units.UnitStep.TheVariants as step
use Rattle.tx_quant.specs.declared.dimension_stage.DimStage.{DimStage}
use Rattle.tx_quant.specs.declared.dimension_stage.DimStage.TheVariants as stage
use Rattle.tx_quant.specs.declared.dimension.DimScan.{DimScan}
use Rattle.tx_quant.specs.Items.{Item, Fails, Reading}
use Rattle.tx_quant.specs.Behinds.{Behind, and_then}
use Rattle.tx_quant.specs.Spelling.{spell}
use Rattle.tx_quant.specs.Units.{due}
use Rattle.tx_quant.specs.FractionStates.{decimals_in}
use Rattle.tx_quant.specs.Sizes.{amount}
use Rattle.tx_quant.specs.Dimensions.{dimension_after, whole, decimals, unit_after, after_word, after_true, true_unit, no_unit_here, missing_unit, infinite, unit_space, only_amount}

abbrev pub dimension_at : Setting → DimStage → Reading (Behind Size)
dimension_at s (stage.Sign negative) items = dimension_after s negative items
dimension_at s (stage.Whole w) items = whole s w.negative w.value items
dimension_at s (stage.Decimals d) items = decimals s d.negative d.whole (decimals_in d) items
dimension_at s (stage.Unit f) items = unit_after s f items
dimension_at s (stage.Letters f begun) items = spell (after_word s f) (no_unit_here s) (due begun) 0 items
dimension_at s (stage.True f) items = after_true s f items
dimension_at s (stage.TrueLetters f begun) items = spell (true_unit s f) (no_unit_here s) (due begun) 0 items
dimension_at s (stage.Infinite f order) items = infinite (amount s f unit.Pt) order items
dimension_at s (stage.Space v order) items = unit_space v order items

abbrev pub dimension_says : DimScan → Reading ℤ
dimension_says d items = and_then (dimension_at d.setting d.stage items) only_amount

-- a unit after a letter more, where `found` reads on behind a whole one
abbrev pub stepped : Setting → (UnitWord → Reading (Behind Size)) → UnitStep → Reading (Behind Size)
stepped s found (step.Found word) items = found word items
stepped s found (step.Due begun) items = spell found (no_unit_here s) (due begun) 0 items
stepped s found step.Missing items = Fails (missing_unit s)

-- the reading goes on at a stage, or ends with an error
abbrev pub Becomes : Setting → Result DimStage ErrorNo → Reading (Behind Size) → Type 0
Becomes s (Ok stage) reading = (items : List Item) → reading items ≡ dimension_at s stage items
Becomes s (Err error) reading = (items : List Item) → reading items ≡ Fails error
