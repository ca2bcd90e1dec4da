use Rattle.tx_run.proofs.KnowledgeLemmas.{none-known}
use Rattle.tx_run.specs.Knowledge.{known_by}
use Rattle.std.proofs.Common.{pos, [], refl, sym, ◌∙◌}
use Rattle.tx_eqtb.specs.Meanings.{meanings}
use Rattle.tx_private.specs.Errors.{numbered}
use Rattle.tx_private.specs.Readings as private
use Rattle.tx_scene.specs.Scenes.{world}
use Rattle.tx_run.specs.declared.doing.Doing.TheVariants as doing
use Rattle.tx_run.specs.Runs.{ControlComes, FailsNow, Does}
use Rattle.tx_run.proofs.RunLemmas.{leads-map}
use Rattle.tx_run.proofs.CommandLemmas.{none-wait-around}
use Rattle.tx_run.proofs.WishLemmas.{begin-overfull, control-begins}
use Rattle.tx_run.proofs.run.Run.control.Goals as goal

-- more tokens are pending than may be
pub returns-then-is_overfull-clause-leads : goal.returns-then-is_overfull-clause-leads
returns-then-is_overfull-clause-leads c = λ g is.
    let run = c.args.self.now in
    let frozen = meanings c.args.format.now.frozen in
    leads-map (FailsNow frozen (numbered 57 4 (pos 0)) g run.scene) (ControlComes g frozen private.Again run) g frozen c.overfull.result c.overfull.new.self
    (λ r p. begin-overfull g frozen private.Control [] run r (sym (c.is_overfull.ensures g frozen 0) ∙ c.if-is_overfull.true) p)
    (c.overfull.ensures.leads g is)

-- the command of the beginning takes its first item
pub returns-clause-leads : goal.returns-clause-leads
returns-clause-leads c = λ g is.
    let run = c.args.self.now in
    let frozen = meanings c.args.format.now.frozen in
    leads-map (Does g frozen doing.Wishes (record run { command = c.start-self.result })) (ControlComes g frozen private.Again run) g frozen c.wishes.result c.wishes.new.self
    (λ r p. control-begins g frozen run.scene run.frames c.start-self.result run r refl c.requires.empty (sym (c.is_overfull.ensures g frozen 0) ∙ c.if-is_overfull.false) (c.start-self.ensures.begins g.view (world g frozen 0 run.scene)) p)
    (c.wishes.ensures.leads g is)

pub wishes-requires-clause-waits : goal.wishes-requires-clause-waits
wishes-requires-clause-waits c = none-wait-around c.args.self.now.frames c.requires.empty

pub returns-clause-knows : goal.returns-clause-knows
returns-clause-knows c names format scene =
    let run = c.args.self.now in
    let known = known_by names run.scene in
    c.wishes.ensures.knows names format scene (none-known known run.frames c.start-self.result c.requires.empty (c.start-self.ensures.knows known))
