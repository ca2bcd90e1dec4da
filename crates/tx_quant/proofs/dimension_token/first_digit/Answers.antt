use Rattle.tx_quant.specs.declared.dimension_stage.DimStage.TheVariants as stage
use Rattle.tx_quant.specs.FractionStates.{decimals_in}
use Rattle.tx_quant.proofs.DimensionLemmas.{goes_on_at, first_point}
use Rattle.tx_quant.proofs.dimension_token.first_digit.Goals as goal

pub returns-then-is_point : goal.returns-then-is_point
returns-then-is_point c =
    goes_on_at c.args.setting.now _ _ (stage.Decimals c.none.result)
    (first_point c.args.setting.now c.args.negative c.args.t c.is_point.result _ _ (decimals_in c.none.result) c.in-None.ensures.value c.is_point.ensures c.if-is_point.true c.none.ensures.decimals c.none.ensures.negative c.none.ensures.whole)
