use Rattle.std.proofs.Common.{◌≡◌, subst}
use Rattle.tx_eqtb.specs.Meanings.{meanings}
use Rattle.tx_private.specs.World.{logged}
use Rattle.tx_scene.specs.Scenes.{world}
use Rattle.tx_run.specs.Runs.{ComesTold, FailsNow}
use Rattle.tx_run.proofs.RunLemmas.{leads-map}
use Rattle.tx_run.proofs.TextLemmas.{told-log, told-error}
use Rattle.tx_run.proofs.run.Run.tell.Goals as goal

-- a line of the log
pub returns-in-Ok-clause-leads : goal.returns-in-Ok-clause-leads
returns-in-Ok-clause-leads c = λ g ground r after.
    let frozen = meanings c.args.format.now.frozen in
    let s = c.args.self.now.scene in
    told-log g frozen c.args.told c.args.text.now c.args.self.now c.tell.new.self r c.in-Log.is
    (λ depth. subst (λ f. world g (meanings f) depth c.tell.new.self ≡ logged c.args.text.now (world g (meanings f) depth s)) c.frozen.ensures (c.in-Ok.ensures.told g depth ground.ground)) after

-- an error
pub returns-in-Error-clause-leads : goal.returns-in-Error-clause-leads
returns-in-Error-clause-leads c = λ g ground.
    let frozen = meanings c.args.format.now.frozen in
    let n = c.in-Error.number in
    let run = c.args.self.now in
    leads-map (FailsNow frozen (record { number = n; shown = c.args.text.now }) g run.scene) (ComesTold g frozen c.args.told c.args.text.now run) g frozen c.fail.result c.fail.new.self
    (λ r fails. told-error g frozen c.args.told n c.args.text.now run r c.in-Error.is fails)
    (c.fail.ensures.leads g ground)
