use Rattle.std.proofs.Common.{◌∙◌}
use Rattle.tx_quant.specs.Units.{due}
use Rattle.tx_quant.specs.Dimensions.{true_unit}
use Rattle.tx_quant.proofs.DimensionLemmas.{goes_on_at, letter_step}
use Rattle.tx_quant.proofs.dimension_token.next_true_letter.Goals as goal

pub returns-in-Ok : goal.returns-in-Ok
returns-in-Ok c =
    goes_on_at _ _ _ c.in-Ok.stage
    (λ items. letter_step c.args.setting.now (true_unit c.args.setting.now c.args.factor) (due c.args.begun) c.args.t _ c.next_of_unit.result c.letter.ensures c.next_of_unit.ensures items ∙ c.in-Ok.ensures items)

pub returns-in-Err : goal.returns-in-Err
returns-in-Err c = λ items.
    letter_step c.args.setting.now (true_unit c.args.setting.now c.args.factor) (due c.args.begun) c.args.t _ c.next_of_unit.result c.letter.ensures c.next_of_unit.ensures items ∙ c.in-Err.ensures items
