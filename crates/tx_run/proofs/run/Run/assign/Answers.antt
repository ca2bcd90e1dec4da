use Rattle.std.proofs.Common.{◌≡◌, ap, subst, ◌∙◌}
use Rattle.tx_scene.specs.Scenes.{world}
use Rattle.tx_eqtb.specs.Meanings.{meanings}
use Rattle.tx_run.proofs.run.Run.assign.Goals as goal
use Rattle.tx_prims.specs.declared.primitives.IntegerParameter.TheVariants.{GlobalDefs}
use Rattle.tx_private.specs.Environment.{assigning, parameter_of}
use Rattle.tx_private.specs.Assignments.{globally}
use Rattle.tx_private.specs.World.{with_environment}
use Rattle.tx_views.specs.Places.{address_in}
use Rattle.tx_views.specs.Meanings.{meaning_in}

-- the assignment is global where its prefixes and the parameter say so
pub returns-in-Ok-clause-assigned : goal.returns-in-Ok-clause-assigned
returns-in-Ok-clause-assigned c = λ g depth is.
    let old = c.args.self.now.scene in
    let w = world g (meanings c.args.format.now.frozen) depth old in
    let global = subst (λ f. c.is_global-global.result ≡ globally (parameter_of (world g (meanings f) depth old).environment GlobalDefs) c.args.prefixes.global) c.frozen.ensures (c.is_global-global.ensures g depth is) in
    c.in-Ok.ensures.assigned g (meanings c.args.format.now.frozen) depth is
    ∙ ap (λ b. with_environment (assigning b (address_in g.view c.args.place) (meaning_in g.view c.args.meaning) w.environment) w) global
