use Rattle.std.proofs.Common.{sym, ap}
use Rattle.tx_private.specs.World.{World}
use Rattle.tx_eqtb.specs.Meanings.{meanings}
use Rattle.tx_commands.specs.Outcomes.{move_of}
use Rattle.tx_commands.specs.declared.effect.Effect.TheVariants as effect
use Rattle.tx_run.proofs.CommandLemmas.{ground-after, leads-moves}
use Rattle.tx_run.proofs.run.Run.ends_region.Goals as goal
use Rattle.tx_private.specs.Controls.{ended}

-- what is pending is dropped before
pub returns-clause-leads : goal.returns-clause-leads
returns-clause-leads c = λ g is.
    let old = c.args.self.now.scene in
    let new = c.drop_rest.new.self in
    let frozen = meanings c.args.format.now.frozen in
    leads-moves g frozen (move_of g.view effect.End) (move_of g.view effect.Finish) old new c.finishes.result c.finishes.new.self
    (ap (λ (w : World). ended w.environment.groups w) (sym (c.drop_rest.ensures.dropped g frozen 0 is.ground)))
    (c.finishes.ensures.leads g (ground-after c.args.format.now g old new c.drop_rest.ensures.ground is))

pub returns-clause-knows : goal.returns-clause-knows
returns-clause-knows c names scene = c.finishes.ensures.knows names (c.drop_rest.ensures.knows names scene)
