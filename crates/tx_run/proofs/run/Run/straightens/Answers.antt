use Rattle.tx_run.proofs.KnowledgeLemmas.{falls-as}
use Rattle.std.proofs.Common.{sym, ap, arith}
use Rattle.tx_private.specs.Readings as private
use Rattle.tx_scene.specs.declared.scene.Scene.{Scene}
use Rattle.tx_run.proofs.CommandLemmas.{ground-same, leads-moves}
use Rattle.tx_run.proofs.run.Run.straightens.Goals as goal
use Rattle.tx_run.specs.Doings.{hang_after_first}

-- they hang after the first line
pub returns-in-Ok-clause-leads : goal.returns-in-Ok-clause-leads
returns-in-Ok-clause-leads c = λ frozen g is.
    let old = c.args.self.now.scene in
    let new = c.assign.new.self in
    leads-moves g frozen (λ w. private.Again (hang_after_first w)) private.Again old new c.restarts.result c.restarts.new.self
    (ap private.Again (sym (c.in-Ok.ensures.assigned g frozen 0 is)))
    (c.restarts.ensures.leads frozen g (ground-same old new (ap (λ (s : Scene). s.input) c.assign.ensures.becomes) g is))

pub returns-in-Ok-clause-knows : goal.returns-in-Ok-clause-knows
returns-in-Ok-clause-knows c names scene = c.restarts.ensures.knows names (c.assign.ensures.knows names scene)

pub returns-in-Ok-clause-holds : goal.returns-in-Ok-clause-holds
returns-in-Ok-clause-holds c empty id =
    omega (arith, c.restarts.ensures.holds empty.doing id, c.in-Ok.ensures.references id, falls-as id c.in-Ok.out c.fallen-self.result c.fallen-self.ensures)
