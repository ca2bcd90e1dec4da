use Rattle.std.proofs.Common.{to_z, of_z, w64, arith, ◌≡◌, sym, subst, ◌∙◌, pos}
use Rattle.tx_private.specs.Errors.{numbered}
use Rattle.tx_scene.specs.Scenes.{world}
use Rattle.tx_eqtb.specs.Meanings.{meanings}
use Rattle.tx_commands.specs.Outcomes.{move_of}
use Rattle.tx_commands.specs.declared.effect.Effect.TheVariants as effect
use Rattle.std.proofs.lemmas.Int.{ints, to_z-of_z}
use Rattle.tx_run.specs.Runs.{Leads, FailsNow}
use Rattle.tx_run.proofs.GroupLemmas.{ended-open, ended-none}
use Rattle.tx_run.proofs.CommandLemmas.{leads-fails, leads-overfull, control-done}
use Rattle.tx_run.proofs.run.Run.finishes.Goals as goal

-- a group is open
pub returns-then-groups-gt0-clause-leads : goal.returns-then-groups-gt0-clause-leads
returns-then-groups-gt0-clause-leads c = λ g is.
    let old = c.args.self.now.scene in
    let frozen = meanings c.args.format.now.frozen in
    leads-fails g frozen (move_of g.view effect.Finish) (numbered 59 0 (pos c.groups-groups.result)) old old c.error.result c.error.new.self
    (ended-open (world g frozen 0 old) c.groups-groups.result (c.groups-groups.ensures.count g frozen 0) c.if-groups-gt0.true)
    (let value : to_z w64 (of_z w64 c.from.result) ≡ pos c.groups-groups.result = grind (arith, ints, to_z-of_z) in
    subst (λ v. Leads (FailsNow frozen (numbered 59 0 v) g old) g frozen c.error.result c.error.new.self) value (c.error.ensures.leads g is))

-- more tokens are pending than may be
pub returns-then-is_overfull-clause-leads : goal.returns-then-is_overfull-clause-leads
returns-then-is_overfull-clause-leads c = λ g is.
    let old = c.args.self.now.scene in
    let frozen = meanings c.args.format.now.frozen in
    leads-overfull g frozen (move_of g.view effect.Finish) old c.overfull.result c.overfull.new.self
    (ended-none (world g frozen 0 old) c.groups-groups.result (c.groups-groups.ensures.count g frozen 0) c.if-groups-gt0.false)
    (sym (c.is_overfull.ensures g frozen 0) ∙ c.if-is_overfull.true)
    (c.overfull.ensures.leads g is)

-- or the region ends
pub returns-clause-leads : goal.returns-clause-leads
returns-clause-leads c = λ g is.
    let old = c.args.self.now.scene in
    let frozen = meanings c.args.format.now.frozen in
    control-done g frozen (move_of g.view effect.Finish) old
    (ended-none (world g frozen 0 old) c.groups-groups.result (c.groups-groups.ensures.count g frozen 0) c.if-groups-gt0.false)
    (sym (c.is_overfull.ensures g frozen 0) ∙ c.if-is_overfull.false)
