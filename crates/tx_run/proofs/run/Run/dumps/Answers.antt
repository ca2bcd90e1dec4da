use Rattle.std.proofs.Common.{ap, sym, ◌∙◌, pos}
use Rattle.tx_eqtb.specs.Meanings.{meanings}
use Rattle.tx_private.specs.Errors.{numbered}
use Rattle.tx_private.specs.World.{World}
use Rattle.tx_private.specs.Controls.{dumped}
use Rattle.tx_scene.specs.Scenes.{world}
use Rattle.tx_commands.specs.Outcomes.{move_of}
use Rattle.tx_commands.specs.declared.effect.Effect.TheVariants as effect
use Rattle.tx_run.proofs.CommandLemmas.{ground-after, leads-moves, leads-fails}
use Rattle.tx_run.proofs.GroupLemmas.{dumped-text, dumped-within, dumped-none}
use Rattle.tx_run.proofs.run.Run.dumps.Goals as goal

-- in a text it is like \end
pub returns-then-not-self-clause-leads : goal.returns-then-not-self-clause-leads
returns-then-not-self-clause-leads c = λ g is.
    let old = c.args.self.now.scene in
    let new = c.drop_rest.new.self in
    let frozen = meanings c.args.format.now.frozen in
    let w = world g frozen 0 new in
    leads-moves g frozen (move_of g.view effect.Dump) (move_of g.view effect.Finish) old new c.finishes.result c.finishes.new.self
    (ap (λ (v : World). dumped v.preamble v.environment.groups v) (sym (c.drop_rest.ensures.dropped g frozen 0 is.ground))
    ∙ dumped-text new.preamble w.environment.groups w c.if-not-self.true)
    (c.finishes.ensures.leads g (ground-after c.args.format.now g old new c.drop_rest.ensures.ground is))

-- in a preamble no group may be open
pub returns-then-groups-gt0-clause-leads : goal.returns-then-groups-gt0-clause-leads
returns-then-groups-gt0-clause-leads c = λ g is.
    let old = c.args.self.now.scene in
    let new = c.drop_rest.new.self in
    let frozen = meanings c.args.format.now.frozen in
    let w = world g frozen 0 new in
    leads-fails g frozen (move_of g.view effect.Dump) (numbered 58 0 (pos 0)) old new c.error.result c.error.new.self
    (ap (λ (v : World). dumped v.preamble v.environment.groups v) (sym (c.drop_rest.ensures.dropped g frozen 0 is.ground))
    ∙ dumped-within new.preamble w.environment.groups w c.groups.result c.if-not-self.false (c.groups.ensures.count g frozen 0) c.if-groups-gt0.true)
    (c.error.ensures.leads g (ground-after c.args.format.now g old new c.drop_rest.ensures.ground is))

-- or the region ends
pub returns-clause-leads : goal.returns-clause-leads
returns-clause-leads c = λ g is.
    let old = c.args.self.now.scene in
    let new = c.drop_rest.new.self in
    let frozen = meanings c.args.format.now.frozen in
    let w = world g frozen 0 new in
    leads-moves g frozen (move_of g.view effect.Dump) (move_of g.view effect.Finish) old new c.finishes-2.result c.finishes-2.new.self
    (ap (λ (v : World). dumped v.preamble v.environment.groups v) (sym (c.drop_rest.ensures.dropped g frozen 0 is.ground))
    ∙ dumped-none new.preamble w.environment.groups w c.groups.result (c.groups.ensures.count g frozen 0) c.if-groups-gt0.false)
    (c.finishes-2.ensures.leads g (ground-after c.args.format.now g old new c.drop_rest.ensures.ground is))

pub returns-then-not-self-clause-knows : goal.returns-then-not-self-clause-knows
returns-then-not-self-clause-knows c names scene = c.finishes.ensures.knows names (c.drop_rest.ensures.knows names scene)

pub returns-then-groups-gt0-clause-knows : goal.returns-then-groups-gt0-clause-knows
returns-then-groups-gt0-clause-knows c names scene = c.error.ensures.knows names (c.drop_rest.ensures.knows names scene)

pub returns-clause-knows : goal.returns-clause-knows
returns-clause-knows c names scene = c.finishes-2.ensures.knows names (c.drop_rest.ensures.knows names scene)
