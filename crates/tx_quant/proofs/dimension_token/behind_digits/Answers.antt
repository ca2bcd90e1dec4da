use Rattle.tx_quant.proofs.DimensionLemmas.{leads_alike, whole_end}
use Rattle.tx_quant.proofs.dimension_token.behind_digits.Goals as goal

pub returns-else-is_point : goal.returns-else-is_point
returns-else-is_point c =
    leads_alike c.args.setting.now c.first_letter.result _ _ _
    (whole_end c.args.setting.now c.args.whole.negative c.args.whole.value c.args.t c.factor.result c.is_point.result c.is_point.ensures c.if-is_point.false c.factor.ensures)
    c.first_letter.ensures
