use Rattle.std.proofs.Common.{refl}
use Rattle.tx_quant.specs.Items.{Quantity}
use Rattle.tx_quant.specs.FractionStates.{decimals_in}
use Rattle.tx_quant.proofs.DimensionLemmas.{leads_alike, decimals_end}
use Rattle.tx_quant.proofs.dimension_quantity.after_quantity.Goals as goal

pub returns-in-Decimals : goal.returns-in-Decimals
returns-in-Decimals c =
    rw c.in-Decimals.is
    (leads_alike c.args.setting.now c.as_unit-in-Decimals.result _ _ _
    (decimals_end c.args.setting.now c.in-Decimals.decimals.negative c.in-Decimals.decimals.whole (decimals_in c.in-Decimals.decimals) (Quantity c.args.q) c.factor-in-Decimals.result refl c.factor-in-Decimals.ensures)
    c.as_unit-in-Decimals.ensures)
