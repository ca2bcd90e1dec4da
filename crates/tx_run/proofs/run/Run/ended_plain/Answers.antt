use Rattle.tx_run.proofs.KnowledgeLemmas.{start-known, first-known}
use Rattle.tx_run.specs.Knowledge.{known_by, KnowsStart}
use Rattle.std.proofs.Common.{[], subst, sym}
use Rattle.tx_eqtb.specs.Meanings.{meanings}
use Rattle.tx_private.specs.Readings as private
use Rattle.tx_opens.specs.Opens.{ComesGiven}
use Rattle.tx_frames.specs.declared.value.Item.TheVariants as item
use Rattle.tx_commands.specs.Commands as commands
use Rattle.tx_commands.specs.declared.item.Item.TheVariants as command_item
use Rattle.tx_scene.specs.Scenes.{world}
use Rattle.tx_run.specs.declared.doing.Start.{Start}
use Rattle.tx_run.specs.declared.doing.Taker.TheVariants as taker
use Rattle.tx_run.specs.Runs.{ComesEnded, ComesPlain, CarriesOut}
use Rattle.tx_run.proofs.RunLemmas.{leads-map}
use Rattle.tx_run.proofs.ReadingLemmas.{given-reading, given-command, carried, concluded}
use Rattle.tx_run.proofs.run.Run.ended_plain.Goals as goal

-- the command is given the text's end
pub returns-in-None-clause-leads : goal.returns-in-None-clause-leads
returns-in-None-clause-leads c = λ g is.
    let run = c.args.self.now in
    let frozen = meanings c.args.format.now.frozen in
    leads-map (ComesGiven (commands.open_of g.view run.command) private.End [] (world g frozen 0 run.scene)) (ComesEnded g frozen taker.Innermost run) g frozen c.conclude.result c.conclude.new.self
    (λ r p. given-command g frozen run.frames run private.End r c.in-None.ensures.none p)
    (concluded c.args.format.now g run.command command_item.End c.feed-outcome.result (record run { frames = c.pop.new.self }) c.conclude.result c.conclude.new.self is c.conclude.ensures.concludes (λ w. c.feed-outcome.ensures.becomes g.view w))

-- the innermost reading is given it
pub returns-in-Some-clause-leads : goal.returns-in-Some-clause-leads
returns-in-Some-clause-leads c = λ g is.
    let run = c.args.self.now in
    let frozen = meanings c.args.format.now.frozen in
    let f = c.in-Some.frame in
    let rest = record run { frames = c.pop.new.self } in
    leads-map (ComesPlain g frozen f private.End rest) (ComesEnded g frozen taker.Innermost run) g frozen c.carry.result c.carry.new.self
    (λ r p. given-reading g frozen f c.pop.new.self run.frames run private.End r c.in-Some.ensures.some p)
    (carried c.args.format.now g f item.End c.feed_end-answer.result rest c.carry.result c.carry.new.self is
    (subst (λ (s : Start). CarriesOut c.args.format.now s c.feed_end-answer.result rest c.carry.result c.carry.new.self) c.start_of-begun.ensures c.carry.ensures.carries)
    (λ w. c.feed_end-answer.ensures.becomes g.view w))

pub returns-in-None-clause-knows : goal.returns-in-None-clause-knows
returns-in-None-clause-knows c names format scene behind =
    c.conclude.ensures.knows names format scene (c.feed-outcome.ensures.knows (known_by names c.args.self.now.scene) behind.control tt)

pub returns-in-Some-clause-knows : goal.returns-in-Some-clause-knows
returns-in-Some-clause-knows c names format scene behind =
    let run = c.args.self.now in
    let known = known_by names run.scene in
    let parts = first-known known run.frames c.in-Some.frame c.pop.new.self c.in-Some.ensures.some behind.readings in
    c.carry.ensures.knows names format scene (record { readings = parts.1; control = behind.control }) (subst (λ s. KnowsStart known s) (sym c.start_of-begun.ensures) (start-known known c.in-Some.frame parts.0)) (c.feed_end-answer.ensures.knows known parts.0)
