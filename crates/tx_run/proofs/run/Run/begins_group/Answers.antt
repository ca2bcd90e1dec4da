use Rattle.tx_run.specs.Knowledge.{counts_as}
use Rattle.std.proofs.Common.{◌≤◌, ◌<◌, sym, ap, subst, ◌∙◌, true, false, pos, ◌≡◌, arith}
use Rattle.tx_private.specs.Readings as private
use Rattle.tx_private.specs.Errors.{numbered}
use Rattle.tx_scene.specs.declared.scene.Scene.{Scene}
use Rattle.tx_scene.specs.Scenes.{world}
use Rattle.tx_eqtb.specs.Meanings.{meanings}
use Rattle.tx_run.proofs.GroupLemmas.{opens-not, opens-more}
use Rattle.tx_run.proofs.CommandLemmas.{ground-same, leads-moves, leads-fails}
use Rattle.tx_run.proofs.run.Run.begins_group.Goals as goal
use Rattle.tx_private.specs.Controls.{opens as opens_group}

-- one group more is too many
pub returns-then-groups-ge-MOST_GROUPS-clause-leads : goal.returns-then-groups-ge-MOST_GROUPS-clause-leads
returns-then-groups-ge-MOST_GROUPS-clause-leads c = λ g is.
    let old = c.args.self.now.scene in
    let frozen = meanings c.args.format.now.frozen in
    leads-fails g frozen (opens_group c.args.kind) (numbered 57 3 (pos 0)) old old c.error.result c.error.new.self
    (opens-not c.args.kind (world g frozen 0 old) (subst (λ n. 254 ≤ n) (sym (c.groups.ensures.count g frozen 0)) c.if-groups-ge-MOST_GROUPS.true))
    (c.error.ensures.leads g is)

-- or it begins
pub returns-in-Ok-clause-leads : goal.returns-in-Ok-clause-leads
returns-in-Ok-clause-leads c = λ g is.
    let old = c.args.self.now.scene in
    let new = c.begin_group.new.self in
    let frozen = meanings c.args.format.now.frozen in
    leads-moves g frozen (opens_group c.args.kind) private.Again old new c.restarts.result c.restarts.new.self
    (opens-more c.args.kind (world g frozen 0 old) (subst (λ n. n < 254) (sym (c.groups.ensures.count g frozen 0)) c.if-groups-ge-MOST_GROUPS.false)
    ∙ ap private.Again (sym (c.in-Ok.ensures.begun g frozen 0 is.ground)))
    (c.restarts.ensures.leads frozen g (ground-same old new (ap (λ (s : Scene). s.input) c.begin_group.ensures.becomes) g is.ground))

pub returns-in-Ok-clause-knows : goal.returns-in-Ok-clause-knows
returns-in-Ok-clause-knows c names scene = c.restarts.ensures.knows names (c.begin_group.ensures.knows names scene)

pub returns-in-Ok-clause-holds : goal.returns-in-Ok-clause-holds
returns-in-Ok-clause-holds c empty id =
    let none : counts_as id c.args.self.now.fallen ≡ 0 = ap (counts_as id) empty.fallen in
    omega (arith, c.restarts.ensures.holds empty.doing id, c.begin_group.ensures.references id, none)
