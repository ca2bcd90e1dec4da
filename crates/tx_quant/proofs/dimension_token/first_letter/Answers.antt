use Rattle.tx_quant.proofs.DimensionLemmas.{goes_on_at, unit_step}
use Rattle.std.proofs.Common.{◌∙◌}
use Rattle.tx_quant.proofs.dimension_token.first_letter.Goals as goal

pub returns-in-Ok : goal.returns-in-Ok
returns-in-Ok c =
    goes_on_at _ _ _ c.in-Ok.stage
    (λ items. unit_step _ c.args.factor c.args.t c.is_space.result _ c.first_of_unit.result c.is_space.ensures c.if-is_space.false c.letter.ensures c.first_of_unit.ensures items ∙ c.in-Ok.ensures items)

pub returns-in-Err : goal.returns-in-Err
returns-in-Err c = λ items.
    unit_step _ c.args.factor c.args.t c.is_space.result _ c.first_of_unit.result c.is_space.ensures c.if-is_space.false c.letter.ensures c.first_of_unit.ensures items ∙ c.in-Err.ensures items
