use Rattle.std.proofs.Common.{◌≡◌, sym, ap, subst, ◌∙◌}
use Rattle.tx_scene.specs.Scenes.{world}
use Rattle.tx_eqtb.specs.Meanings.{meanings}
use Rattle.tx_commands.specs.Outcomes.{move_of}
use Rattle.tx_commands.specs.declared.effect.Effect.TheVariants as effect
use Rattle.tx_run.proofs.CommandLemmas.{leads-moves, leads-fails}
use Rattle.tx_run.proofs.run.Run.computes.Goals as goal
use Rattle.tx_private.specs.Assignments.{assigns}
use Rattle.tx_private.specs.Arithmetic.{assigns_result, result}
use Rattle.tx_private.specs.Quantities.{quantity_at}
use Rattle.tx_assign.specs.Assigned.{prefixes_in}
use Rattle.tx_assign.specs.Operations.{operation_in}
use Rattle.tx_assign.specs.Refusals.{refused_in}
use Rattle.tx_views.specs.Places.{address_in}
use Rattle.tx_views.specs.Meanings.{meaning_in}

-- what is computed is assigned
pub returns-in-Ok-clause-leads : goal.returns-in-Ok-clause-leads
returns-in-Ok-clause-leads c = λ g is.
    let old = c.args.self.now.scene in
    let frozen = meanings c.args.format.now.frozen in
    let w = world g frozen 0 old in
    let p = prefixes_in c.args.prefixes in
    let at = address_in g.view c.args.place in
    let holds = subst (λ f. c.quantity-old.result ≡ quantity_at at (world g (meanings f) 0 old)) c.frozen.ensures (c.quantity-old.ensures g 0 is.ground) in
    leads-moves g frozen (move_of g.view (effect.Compute c.args.prefixes c.args.operation c.args.place c.args.by)) (assigns p at (meaning_in g.view c.in-Ok.meaning)) old old c.assigns_unheld.result c.assigns_unheld.new.self
    (ap (λ q. assigns_result p at (result (operation_in c.args.operation) q c.args.by) w) (sym holds) ∙ c.in-Ok.ensures.assigns g.view p at w)
    (c.assigns_unheld.ensures.leads g is)

-- or it is the error of the computation
pub returns-in-Err-clause-leads : goal.returns-in-Err-clause-leads
returns-in-Err-clause-leads c = λ g is.
    let old = c.args.self.now.scene in
    let frozen = meanings c.args.format.now.frozen in
    let w = world g frozen 0 old in
    let p = prefixes_in c.args.prefixes in
    let at = address_in g.view c.args.place in
    let holds = subst (λ f. c.quantity-old.result ≡ quantity_at at (world g (meanings f) 0 old)) c.frozen.ensures (c.quantity-old.ensures g 0 is.ground) in
    leads-fails g frozen (move_of g.view (effect.Compute c.args.prefixes c.args.operation c.args.place c.args.by)) (refused_in c.in-Err.error) old old c.refuse.result c.refuse.new.self
    (ap (λ q. assigns_result p at (result (operation_in c.args.operation) q c.args.by) w) (sym holds) ∙ c.in-Err.ensures.assigns g.view p at w)
    (c.refuse.ensures.leads g is)
