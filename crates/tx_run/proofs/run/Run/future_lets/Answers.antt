use Rattle.tx_frames.specs.Knowledge.{KnowsPlace, KnowsSense}
use Rattle.tx_run.proofs.KnowledgeLemmas.{known-same}
use Rattle.tx_run.specs.Knowledge.{known_by}
use Rattle.std.proofs.Common.{sym, ap, subst}
use Rattle.tx_private.specs.World.{World}
use Rattle.tx_eqtb.specs.Meanings.{meanings}
use Rattle.tx_commands.specs.Outcomes.{move_of}
use Rattle.tx_commands.specs.declared.effect.Effect.TheVariants as effect
use Rattle.tx_run.proofs.CommandLemmas.{ground-after, leads-moves}
use Rattle.tx_run.proofs.run.Run.future_lets.Goals as goal
use Rattle.tx_private.specs.Assignments.{assigns}
use Rattle.tx_assign.specs.Assigned.{prefixes_in}
use Rattle.tx_views.specs.Places.{address_in}
use Rattle.tx_views.specs.Meanings.{sense_in}

-- the tokens are in front before
pub returns-in-Ok-clause-leads : goal.returns-in-Ok-clause-leads
returns-in-Ok-clause-leads c = λ g is.
    let old = c.args.self.now.scene in
    let new = c.put_two.new.self.scene in
    let frozen = meanings c.args.format.now.frozen in
    leads-moves g frozen (move_of g.view (effect.FutureLet c.args.prefixes c.args.place c.args.sense c.args.first c.args.second)) (move_of g.view (effect.Let c.args.prefixes c.args.place c.args.sense)) old new c.lets.result c.lets.new.self
    (ap (λ (w : World). assigns (prefixes_in c.args.prefixes) (address_in g.view c.args.place) (sense_in g.view c.args.sense) w) (sym (c.in-Ok.ensures.in_front g frozen 0 is.ground)))
    (c.lets.ensures.leads g (ground-after c.args.format.now g old new c.put_two.ensures.keeps.ground is))

pub returns-in-Ok-clause-knows : goal.returns-in-Ok-clause-knows
returns-in-Ok-clause-knows c names scene place means first second =
    let same = sym (known-same names c.args.self.now.scene c.put_two.new.self.scene c.put_two.ensures.environment) in
    c.lets.ensures.knows names (c.put_two.ensures.knows names scene first second) (subst (λ k. KnowsPlace k c.args.place) same place) (subst (λ k. KnowsSense k c.args.sense) same means)

pub returns-in-Err-clause-knows : goal.returns-in-Err-clause-knows
returns-in-Err-clause-knows c names scene place means first second = c.put_two.ensures.knows names scene first second
