use Rattle.tx_quant.specs.declared.dimension_stage.DimStage.TheVariants as stage
use Rattle.tx_quant.specs.Items.{Token}
use Rattle.tx_quant.specs.FractionStates.{decimals_in}
use Rattle.tx_quant.proofs.DimensionLemmas.{goes_on_at, leads_alike, decimal_more, decimals_end}
use Rattle.tx_quant.proofs.dimension_token.next_decimal.Goals as goal

pub returns-in-Some : goal.returns-in-Some
returns-in-Some c =
    goes_on_at c.args.setting.now _ _ (stage.Decimals c.and.result)
    (decimal_more c.args.setting.now c.args.decimals.negative c.args.decimals.whole (decimals_in c.args.decimals) c.args.t c.in-Some.d _ _ (decimals_in c.and.result) c.in-Some.ensures.value c.and.ensures.decimals c.and.ensures.negative c.and.ensures.whole)

pub returns-in-None : goal.returns-in-None
returns-in-None c =
    leads_alike c.args.setting.now c.first_letter.result _ _ _
    (decimals_end c.args.setting.now c.args.decimals.negative c.args.decimals.whole (decimals_in c.args.decimals) (Token c.args.t) c.factor.result c.in-None.ensures.value c.factor.ensures)
    c.first_letter.ensures
