use Rattle.std.proofs.Common.{◌+◌, ◌*◌, arith}
use Rattle.tx_quant.specs.declared.dimension_stage.DimStage.TheVariants as stage
use Rattle.tx_quant.proofs.DimensionLemmas.{goes_on_at, whole_more}
use Rattle.tx_quant.proofs.dimension_token.next_digit.Goals as goal

pub returns-then-value : goal.returns-then-value
returns-then-value c =
    goes_on_at c.args.setting.now _ _ (stage.Whole record { negative = c.args.whole.negative; value = c.from.result * 10 + c.from-in-Some.result })
    (whole_more c.args.setting.now c.args.whole.negative c.args.whole.value c.args.t c.in-Some.d (c.from.result * 10 + c.from-in-Some.result) c.in-Some.ensures.value (omega (arith, c.from.ensures, c.from-in-Some.ensures)) c.if-value.true)
