use Rattle.std.proofs.Common.{refl}
use Rattle.tx_eqtb.specs.Meanings.{meanings}
use Rattle.tx_private.specs.Errors.{showing}
use Rattle.tx_private.specs.World.{World}
use Rattle.tx_private.specs.Described.{meaning_text}
use Rattle.tx_views.specs.Meanings.{sense_in}
use Rattle.tx_commands.specs.Outcomes.{move_of}
use Rattle.tx_commands.specs.declared.effect.Effect.TheVariants as effect
use Rattle.tx_run.proofs.CommandLemmas.{leads-effect, leads-shown}
use Rattle.tx_run.proofs.run.Run.does.Goals as goal

-- what each effect does
pub returns-in-Assign-clause-leads : goal.returns-in-Assign-clause-leads
returns-in-Assign-clause-leads c = λ g is.
    leads-effect g (meanings c.args.format.now.frozen) c.args.effect _ c.args.self.now c.assigns_unheld.result c.assigns_unheld.new.self c.in-Assign.is (c.assigns_unheld.ensures.leads g is)

pub returns-in-AssignTokens-clause-leads : goal.returns-in-AssignTokens-clause-leads
returns-in-AssignTokens-clause-leads c = λ g is.
    leads-effect g (meanings c.args.format.now.frozen) c.args.effect _ c.args.self.now c.shares.result c.shares.new.self c.in-AssignTokens.is (c.shares.ensures.leads (meanings c.args.format.now.frozen) g is.ground)

pub returns-in-Let-clause-leads : goal.returns-in-Let-clause-leads
returns-in-Let-clause-leads c = λ g is.
    leads-effect g (meanings c.args.format.now.frozen) c.args.effect _ c.args.self.now c.lets.result c.lets.new.self c.in-Let.is (c.lets.ensures.leads g is)

pub returns-in-FutureLet-clause-leads : goal.returns-in-FutureLet-clause-leads
returns-in-FutureLet-clause-leads c = λ g is.
    leads-effect g (meanings c.args.format.now.frozen) c.args.effect _ c.args.self.now c.future_lets.result c.future_lets.new.self c.in-FutureLet.is (c.future_lets.ensures.leads g is)

pub returns-in-Define-clause-leads : goal.returns-in-Define-clause-leads
returns-in-Define-clause-leads c = λ g is.
    leads-effect g (meanings c.args.format.now.frozen) c.args.effect _ c.args.self.now c.defines.result c.defines.new.self c.in-Define.is (c.defines.ensures.leads g is)

pub returns-in-Compute-clause-leads : goal.returns-in-Compute-clause-leads
returns-in-Compute-clause-leads c = λ g is.
    leads-effect g (meanings c.args.format.now.frozen) c.args.effect _ c.args.self.now c.computes.result c.computes.new.self c.in-Compute.is (c.computes.ensures.leads g is)

pub returns-in-BeginGroup-clause-leads : goal.returns-in-BeginGroup-clause-leads
returns-in-BeginGroup-clause-leads c = λ g is.
    leads-effect g (meanings c.args.format.now.frozen) c.args.effect _ c.args.self.now c.begins_group.result c.begins_group.new.self c.in-BeginGroup.is (c.begins_group.ensures.leads g is)

pub returns-in-CloseBrace-clause-leads : goal.returns-in-CloseBrace-clause-leads
returns-in-CloseBrace-clause-leads c = λ g is.
    leads-effect g (meanings c.args.format.now.frozen) c.args.effect _ c.args.self.now c.closes_brace.result c.closes_brace.new.self c.in-CloseBrace.is (c.closes_brace.ensures.leads g is)

pub returns-in-EndGroup-clause-leads : goal.returns-in-EndGroup-clause-leads
returns-in-EndGroup-clause-leads c = λ g is.
    leads-effect g (meanings c.args.format.now.frozen) c.args.effect _ c.args.self.now c.ends_group.result c.ends_group.new.self c.in-EndGroup.is (c.ends_group.ensures.leads g is)

pub returns-in-AfterGroup-clause-leads : goal.returns-in-AfterGroup-clause-leads
returns-in-AfterGroup-clause-leads c = λ g is.
    leads-effect g (meanings c.args.format.now.frozen) c.args.effect _ c.args.self.now c.keeps_for_group.result c.keeps_for_group.new.self c.in-AfterGroup.is (c.keeps_for_group.ensures.leads (meanings c.args.format.now.frozen) g is.ground)

pub returns-in-AfterAssignment-clause-leads : goal.returns-in-AfterAssignment-clause-leads
returns-in-AfterAssignment-clause-leads c = λ g is.
    leads-effect g (meanings c.args.format.now.frozen) c.args.effect _ c.args.self.now c.keeps_for_assignment.result c.keeps_for_assignment.new.self c.in-AfterAssignment.is (c.keeps_for_assignment.ensures.leads (meanings c.args.format.now.frozen) g is.ground)

pub returns-in-Message-clause-leads : goal.returns-in-Message-clause-leads
returns-in-Message-clause-leads c = λ g is.
    leads-effect g (meanings c.args.format.now.frozen) c.args.effect _ c.args.self.now c.tells.result c.tells.new.self c.in-Message.is (c.tells.ensures.leads g is)

pub returns-in-ChangeCase-clause-leads : goal.returns-in-ChangeCase-clause-leads
returns-in-ChangeCase-clause-leads c = λ g is.
    leads-effect g (meanings c.args.format.now.frozen) c.args.effect _ c.args.self.now c.changes_case.result c.changes_case.new.self c.in-ChangeCase.is (c.changes_case.ensures.leads g is)

pub returns-in-Par-clause-leads : goal.returns-in-Par-clause-leads
returns-in-Par-clause-leads c = λ g is.
    leads-effect g (meanings c.args.format.now.frozen) c.args.effect _ c.args.self.now c.ends_paragraph.result c.ends_paragraph.new.self c.in-Par.is (c.ends_paragraph.ensures.leads (meanings c.args.format.now.frozen) g is.ground)

pub returns-in-End-clause-leads : goal.returns-in-End-clause-leads
returns-in-End-clause-leads c = λ g is.
    leads-effect g (meanings c.args.format.now.frozen) c.args.effect _ c.args.self.now c.ends_region.result c.ends_region.new.self c.in-End.is (c.ends_region.ensures.leads g is)

pub returns-in-Dump-clause-leads : goal.returns-in-Dump-clause-leads
returns-in-Dump-clause-leads c = λ g is.
    leads-effect g (meanings c.args.format.now.frozen) c.args.effect _ c.args.self.now c.dumps.result c.dumps.new.self c.in-Dump.is (c.dumps.ensures.leads g is)

pub returns-in-Finish-clause-leads : goal.returns-in-Finish-clause-leads
returns-in-Finish-clause-leads c = λ g is.
    leads-effect g (meanings c.args.format.now.frozen) c.args.effect _ c.args.self.now c.finishes.result c.finishes.new.self c.in-Finish.is (c.finishes.ensures.leads g is)

-- the errors that show what something means
pub returns-in-BadPrefix-clause-leads : goal.returns-in-BadPrefix-clause-leads
returns-in-BadPrefix-clause-leads c = λ g is.
    let frozen = meanings c.args.format.now.frozen in
    let shows = effect.BadPrefix c.in-BadPrefix.sense in
    leads-effect g frozen c.args.effect shows c.args.self.now c.describes.result c.describes.new.self c.in-BadPrefix.is
    (leads-shown g frozen (move_of g.view shows) (λ (w : World). showing 22 0 (meaning_text w.environment (sense_in g.view c.in-BadPrefix.sense))) c.args.self.now.scene c.describes.result c.describes.new.self refl
    (c.describes.ensures.leads g is))

pub returns-in-NoTarget-clause-leads : goal.returns-in-NoTarget-clause-leads
returns-in-NoTarget-clause-leads c = λ g is.
    let frozen = meanings c.args.format.now.frozen in
    let shows = effect.NoTarget c.in-NoTarget.sense in
    leads-effect g frozen c.args.effect shows c.args.self.now c.describes-in-NoTarget.result c.describes-in-NoTarget.new.self c.in-NoTarget.is
    (leads-shown g frozen (move_of g.view shows) (λ (w : World). showing 20 0 (meaning_text w.environment (sense_in g.view c.in-NoTarget.sense))) c.args.self.now.scene c.describes-in-NoTarget.result c.describes-in-NoTarget.new.self refl
    (c.describes-in-NoTarget.ensures.leads g is))
