use Rattle.tx_run.specs.Knowledge.{known_by}
use Rattle.std.proofs.Common.{sym, ap}
use Rattle.tx_scene.specs.Scenes.{world}
use Rattle.tx_eqtb.specs.Meanings.{meanings}
use Rattle.tx_commands.specs.Outcomes.{move_of}
use Rattle.tx_commands.specs.declared.effect.Effect.TheVariants as effect
use Rattle.tx_run.proofs.CommandLemmas.{leads-moves}
use Rattle.tx_run.proofs.run.Run.lets.Goals as goal
use Rattle.tx_private.specs.Assignments.{assigns}
use Rattle.tx_assign.specs.Assigned.{prefixes_in}
use Rattle.tx_views.specs.Places.{address_in}
use Rattle.tx_views.specs.Meanings.{meaning_in}

-- the meaning is what the token means
pub returns-in-Some-clause-leads : goal.returns-in-Some-clause-leads
returns-in-Some-clause-leads c = λ g is.
    let old = c.args.self.now.scene in
    let frozen = meanings c.args.format.now.frozen in
    let p = prefixes_in c.args.prefixes in
    let at = address_in g.view c.args.place in
    leads-moves g frozen (move_of g.view (effect.Let c.args.prefixes c.args.place c.args.sense)) (assigns p at (meaning_in g.view c.in-Some.meaning)) old old c.assigns_unheld.result c.assigns_unheld.new.self
    (ap (λ m. assigns p at m (world g frozen 0 old)) (sym (c.in-Some.ensures.means g.view)))
    (c.assigns_unheld.ensures.leads g is)

pub returns-in-Some-clause-knows : goal.returns-in-Some-clause-knows
returns-in-Some-clause-knows c names scene place means =
    c.assigns_unheld.ensures.knows names scene place (c.in-Some.ensures.knows (known_by names c.args.self.now.scene) means)
