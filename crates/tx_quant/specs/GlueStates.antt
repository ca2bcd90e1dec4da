-- What glue that is being read says of later items.
use Rattle.tx_num.specs.declared.glue.GlueSpec.{GlueSpec}
use Rattle.tx_quant.specs.declared.keyword.KeySet.TheVariants as set
use Rattle.tx_quant.specs.declared.setting.Setting.{Setting}
use Rattle.tx_quant.specs.declared.glue_stage.GlueStage.{GlueStage}
use Rattle.tx_quant.specs.declared.glue_stage.GlueStage.TheVariants as stage
use Rattle.tx_quant.specs.declared.glue.GlueScan.{GlueScan}
use Rattle.tx_quant.specs.Items.{Reading}
use Rattle.tx_quant.specs.Behinds.{and_then}
use Rattle.tx_quant.specs.Keywords.{looking}
use Rattle.tx_quant.specs.DimensionStates.{dimension_at}
use Rattle.tx_quant.specs.Glues.{glue, with_infinite, after_width, after_stretch, after_shrink, behind_keyword, no_keyword}

abbrev pub glue_at : Setting → GlueStage → Reading GlueSpec
glue_at s stage.Start items = glue s items
glue_at s (stage.Width d) items = and_then (dimension_at s d items) (after_width s)
glue_at s (stage.Plus width look) items =
    looking (behind_keyword s (after_stretch s width)) (no_keyword (after_stretch s width)) set.Plus look items
glue_at s (stage.Stretch width d) items = and_then (dimension_at (with_infinite s) d items) (after_stretch s width)
glue_at s (stage.Minus g look) items =
    looking (behind_keyword s (after_shrink g)) (no_keyword (after_shrink g)) set.Minus look items
glue_at s (stage.Shrink g d) items = and_then (dimension_at (with_infinite s) d items) (after_shrink g)

abbrev pub glue_says : GlueScan → Reading GlueSpec
glue_says g items = glue_at g.setting g.stage items
