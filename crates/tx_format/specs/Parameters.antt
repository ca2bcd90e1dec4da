-- The values of parameters. The TeXbook, chapter 24.
use Rattle.std.specs.Prelude.{ℕ, ℤ, pos, negsuc, ◌*◌}
use Rattle.tx_num.specs.declared.glue.GlueSpec.{GlueSpec}
use Rattle.tx_num.specs.declared.glue.Order.TheVariants as order
use Rattle.tx_prims.specs.declared.primitives.IntegerParameter.{IntegerParameter}
use Rattle.tx_prims.specs.declared.primitives.IntegerParameter.TheVariants as integers
use Rattle.tx_prims.specs.declared.primitives.DimensionParameter.{DimensionParameter}
use Rattle.tx_prims.specs.declared.primitives.DimensionParameter.TheVariants as dimensions
use Rattle.tx_prims.specs.declared.primitives.GlueParameter.{GlueParameter}
use Rattle.tx_prims.specs.declared.primitives.GlueParameter.TheVariants as glues
use Rattle.tx_eqtb.specs.Meanings.{no_glue}
use Rattle.tx_format.specs.declared.preset.Preset.{Preset}
use Rattle.tx_format.specs.Presets.{by_preset}

abbrev pub start_integer : IntegerParameter → ℤ
start_integer integers.Tolerance = pos 10000
start_integer integers.HangAfter = pos 1
start_integer integers.MaxDeadCycles = pos 25
start_integer integers.EscapeChar = pos 92
start_integer integers.EndLineChar = pos 13
start_integer integers.NewLineChar = negsuc 0
start_integer integers.Time = pos 720
start_integer integers.Day = pos 4
start_integer integers.Month = pos 7
start_integer integers.Year = pos 1776
start_integer _ = pos 0

abbrev pub bare_integer : IntegerParameter → ℤ
bare_integer integers.PreTolerance = pos 100
bare_integer integers.Tolerance = pos 200
bare_integer integers.LinePenalty = pos 10
bare_integer integers.HBadness = pos 1000
bare_integer integers.VBadness = pos 1000
bare_integer integers.LeftHyphenMin = pos 2
bare_integer integers.RightHyphenMin = pos 3
bare_integer integers.DefaultHyphenChar = pos 45
bare_integer integers.DefaultSkewChar = negsuc 0
bare_integer other = start_integer other

abbrev pub integer : Preset → IntegerParameter → ℤ
integer preset parameter = by_preset (start_integer parameter) (bare_integer parameter) preset

-- so many points
abbrev pub points : ℕ → ℤ
points n = pos (n * 65536)

-- a tenth of a point is 6554 scaled points
abbrev pub bare_dimension : DimensionParameter → ℤ
bare_dimension dimensions.HSize = points 345
bare_dimension dimensions.VSize = points 550
bare_dimension dimensions.ParIndent = points 20
bare_dimension dimensions.MaxDepth = points 2
bare_dimension dimensions.HFuzz = pos 6554
bare_dimension dimensions.VFuzz = pos 6554
bare_dimension _ = pos 0

abbrev pub dimension : Preset → DimensionParameter → ℤ
dimension preset parameter = by_preset (pos 0) (bare_dimension parameter) preset

-- glue that neither stretches nor shrinks
abbrev pub rigid : ℕ → GlueSpec
rigid n = record { width = points n; stretch = pos 0; stretch_order = order.Finite; shrink = pos 0; shrink_order = order.Finite }

-- glue without width that stretches by one fil
abbrev pub one_fil : GlueSpec
one_fil = record { width = pos 0; stretch = points 1; stretch_order = order.Fil; shrink = pos 0; shrink_order = order.Finite }

abbrev pub bare_glue : GlueParameter → GlueSpec
bare_glue glues.BaselineSkip = rigid 12
bare_glue glues.LineSkip = rigid 1
bare_glue glues.TopSkip = rigid 10
bare_glue glues.ParFillSkip = one_fil
bare_glue _ = no_glue

abbrev pub glue : Preset → GlueParameter → GlueSpec
glue preset parameter = by_preset no_glue (bare_glue parameter) preset
