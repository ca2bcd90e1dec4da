use Rattle.std.proofs.Common.{sym, ap}
use Rattle.tx_private.specs.Readings as private
use Rattle.tx_run.proofs.CommandLemmas.{leads-moves}
use Rattle.tx_run.proofs.run.Run.releases.Goals as goal
use Rattle.tx_private.specs.Assignments.{release}

-- the token is put in front
pub returns-in-Ok-clause-leads : goal.returns-in-Ok-clause-leads
returns-in-Ok-clause-leads c = λ frozen g is.
    leads-moves g frozen (λ w. private.Again (release w.kept w)) private.Again c.args.self.now.scene c.release_kept.new.self c.restarts.result c.restarts.new.self
    (ap private.Again (sym (c.in-Ok.ensures.released g frozen 0 is)))
    (c.restarts.ensures.leads frozen g (c.release_kept.ensures.ground g is))

pub returns-in-Ok-clause-knows : goal.returns-in-Ok-clause-knows
returns-in-Ok-clause-knows c names scene = c.restarts.ensures.knows names (c.release_kept.ensures.knows names scene)
