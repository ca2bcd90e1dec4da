use Rattle.tx_run.proofs.KnowledgeLemmas.{token-known}
use Rattle.tx_run.specs.Knowledge.{known_by, counts_as}
use Rattle.std.proofs.Common.{sym, ap, ◌≡◌, arith}
use Rattle.tx_private.specs.Readings as private
use Rattle.tx_scene.specs.declared.scene.Scene.{Scene}
use Rattle.tx_commands.specs.Outcomes.{move_of}
use Rattle.tx_commands.specs.declared.effect.Effect.TheVariants as effect
use Rattle.tx_run.proofs.CommandLemmas.{ground-same, leads-moves}
use Rattle.tx_run.proofs.run.Run.keeps_for_group.Goals as goal

-- the token is kept
pub returns-in-Ok-clause-leads : goal.returns-in-Ok-clause-leads
returns-in-Ok-clause-leads c = λ frozen g is.
    let old = c.args.self.now.scene in
    let new = c.after_group.new.self in
    leads-moves g frozen (move_of g.view (effect.AfterGroup c.args.token)) private.Again old new c.restarts.result c.restarts.new.self
    (ap private.Again (sym (c.in-Ok.ensures.kept g frozen 0 is)))
    (c.restarts.ensures.leads frozen g (ground-same old new (ap (λ (s : Scene). s.input) c.after_group.ensures.becomes) g is))

pub returns-in-Ok-clause-knows : goal.returns-in-Ok-clause-knows
returns-in-Ok-clause-knows c names scene token =
    c.restarts.ensures.knows names (c.after_group.ensures.knows names (token-known (known_by names c.args.self.now.scene) c.args.token token) scene)

pub returns-in-Ok-clause-holds : goal.returns-in-Ok-clause-holds
returns-in-Ok-clause-holds c empty id =
    let none : counts_as id c.args.self.now.fallen ≡ 0 = ap (counts_as id) empty.fallen in
    omega (arith, c.restarts.ensures.holds empty.doing id, c.after_group.ensures.references id, none)
