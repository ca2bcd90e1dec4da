use Rattle.std.proofs.Common.{◌≡◌, refl, subst}
use Rattle.tx_model.specs.declared.reply.Status.TheVariants as status
use Rattle.tx_private.specs.Errors.{Error}
use Rattle.tx_private.specs.World.{failure}
use Rattle.tx_private.specs.Reads.{Failed}
use Rattle.tx_private.specs.Region.{outcome_of, outcome_by}
use Rattle.tx_eqtb.specs.Meanings.{meanings}
use Rattle.tx_scene.specs.Scenes.{world}
use Rattle.tx_run.proofs.run.Run.fail.Goals as goal

-- the failure doesn't depend on how many readings are open
pub returns-in-Ok-clause-leads : goal.returns-in-Ok-clause-leads
returns-in-Ok-clause-leads c = λ g is.
    let error : Error = record { number = c.args.number; shown = c.args.shown.now } in
    let old = c.args.self.now.scene in
    let new = c.fail.new.self in
    let fails = subst (λ f. outcome_of (Failed (failure error (world g (meanings f) 0 old))) ≡ outcome_by status.Fail (world g (meanings f) 0 new).output) c.frozen.ensures (c.in-Ok.ensures.fails g 0 is.ground) in
    (failure error (world g (meanings c.args.format.now.frozen) 0 old), λ depth. refl, fails)
