use Rattle.tx_quant.proofs.GlueLemmas.{begins_width}
use Rattle.tx_quant.proofs.glue_quantity.begin.Goals as goal

pub returns-in-Int : goal.returns-in-Int
returns-in-Int c = begins_width c.args.setting.now c.in_width.result c.args.q c.in-Int.is c.in_width.ensures
