use Rattle.std.proofs.Common.{pos}
use Rattle.tx_private.specs.Errors.{numbered}
use Rattle.tx_scene.specs.Scenes.{world}
use Rattle.tx_scene.specs.Changes.{closing}
use Rattle.tx_eqtb.specs.Meanings.{meanings}
use Rattle.tx_commands.specs.Outcomes.{move_of}
use Rattle.tx_commands.specs.declared.effect.Effect.TheVariants as effect
use Rattle.tx_run.proofs.GroupLemmas.{group-none, group-semi, group-simple, group-other}
use Rattle.tx_run.proofs.CommandLemmas.{leads-moves, leads-fails}
use Rattle.tx_run.proofs.run.Run.ends_group.Goals as goal

pub returns-in-None-clause-leads : goal.returns-in-None-clause-leads
returns-in-None-clause-leads c = λ g is.
    let old = c.args.self.now.scene in
    let frozen = meanings c.args.format.now.frozen in
    leads-fails g frozen (move_of g.view effect.EndGroup) (numbered 5 0 (pos 0)) old old c.error.result c.error.new.self
    (group-none (world g frozen 0 old) (c.in-None.ensures.kind g frozen 0))
    (c.error.ensures.leads g is)

pub returns-in-Semi-clause-leads : goal.returns-in-Semi-clause-leads
returns-in-Semi-clause-leads c = λ g is.
    let old = c.args.self.now.scene in
    let frozen = meanings c.args.format.now.frozen in
    leads-moves g frozen (move_of g.view effect.EndGroup) closing old old c.begins_closing.result c.begins_closing.new.self
    (group-semi (world g frozen 0 old) c.in-Some.kind c.in-Semi.is (c.in-Some.ensures.kind g frozen 0))
    (c.begins_closing.ensures.leads frozen g is.ground)

pub returns-in-Simple-clause-leads : goal.returns-in-Simple-clause-leads
returns-in-Simple-clause-leads c = λ g is.
    let old = c.args.self.now.scene in
    let frozen = meanings c.args.format.now.frozen in
    leads-fails g frozen (move_of g.view effect.EndGroup) (numbered 6 0 (pos 0)) old old c.error-in-Simple.result c.error-in-Simple.new.self
    (group-simple (world g frozen 0 old) c.in-Some.kind c.in-Simple.is (c.in-Some.ensures.kind g frozen 0))
    (c.error-in-Simple.ensures.leads g is)

pub returns-in_default-clause-leads : goal.returns-in_default-clause-leads
returns-in_default-clause-leads c = λ g is.
    let old = c.args.self.now.scene in
    let frozen = meanings c.args.format.now.frozen in
    leads-fails g frozen (move_of g.view effect.EndGroup) (numbered 63 0 (pos 0)) old old c.error-in_default.result c.error-in_default.new.self
    (group-other (world g frozen 0 old) c.in-Some.kind c.in_default.not-Semi c.in_default.not-Simple (c.in-Some.ensures.kind g frozen 0))
    (c.error-in_default.ensures.leads g is)
