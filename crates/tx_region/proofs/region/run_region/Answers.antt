use Rattle.std.proofs.Common.{refl, sym, ap, ◌∙◌}
use Rattle.tx_model.specs.declared.reply.Status.TheVariants as status
use Rattle.tx_gullet.specs.Outcomes.{region_outcome}
use Rattle.tx_proto.specs.Written.{outcome_with}
use Rattle.tx_region.proofs.RegionLemmas.{answered-with}
use Rattle.tx_region.proofs.region.run_region.Goals as goal

pub returns-in-Ok-Done-clause-answered : goal.returns-in-Ok-Done-clause-answered
returns-in-Ok-Done-clause-answered c map stands =
    answered-with map c.args.request.now.text c.in-Ok.text c.args.request.now.budget (region_outcome c.in-Ok-Done.field-0) (outcome_with status.Done c.body.result) c.run.new.self
    (c.in-Ok.ensures ∙ c.as_slice.ensures) (ap region_outcome c.in-Ok-Done.field-0-is ∙ sym (ap (outcome_with status.Done) c.body.ensures)) (c.in-Ok-Done.ensures.answered map stands)

pub returns-in-Ok-Fail-clause-answered : goal.returns-in-Ok-Fail-clause-answered
returns-in-Ok-Fail-clause-answered c map stands =
    answered-with map c.args.request.now.text c.in-Ok.text c.args.request.now.budget (region_outcome c.in-Ok-Fail.field-0) (outcome_with status.Fail c.body-in-Ok-Fail.result) c.run.new.self
    (c.in-Ok.ensures ∙ c.as_slice.ensures) (ap region_outcome c.in-Ok-Fail.field-0-is ∙ sym (ap (outcome_with status.Fail) c.body-in-Ok-Fail.ensures)) (c.in-Ok-Fail.ensures.answered map stands)

pub returns-in-Ok-Spent-clause-answered : goal.returns-in-Ok-Spent-clause-answered
returns-in-Ok-Spent-clause-answered c map stands =
    answered-with map c.args.request.now.text c.in-Ok.text c.args.request.now.budget (region_outcome c.in-Ok-Spent.field-0) (outcome_with status.Spent c.body-in-Ok-Spent.result) c.run.new.self
    (c.in-Ok.ensures ∙ c.as_slice.ensures) (ap region_outcome c.in-Ok-Spent.field-0-is ∙ sym (ap (outcome_with status.Spent) c.body-in-Ok-Spent.ensures)) (c.in-Ok-Spent.ensures.answered map stands)

pub returns-in-Err-clause-answered : goal.returns-in-Err-clause-answered
returns-in-Err-clause-answered c map stands = (map, refl, (c.in-Err.ensures.given_back tt).stands map stands)
