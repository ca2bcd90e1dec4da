use Rattle.tx_run.proofs.KnowledgeLemmas.{start-known, first-known}
use Rattle.tx_run.specs.Knowledge.{known_by, KnowsStart}
use Rattle.std.proofs.Common.{[], pos, sym, ◌∙◌, subst}
use Rattle.tx_eqtb.specs.Meanings.{meanings}
use Rattle.tx_private.specs.Errors.{numbered}
use Rattle.tx_private.specs.Readings as private
use Rattle.tx_opens.specs.Opens.{ComesGiven}
use Rattle.tx_frames.specs.Values.{value_in}
use Rattle.tx_frames.specs.declared.value.Item.TheVariants as item
use Rattle.tx_commands.specs.Commands as commands
use Rattle.tx_scene.specs.Scenes.{world}
use Rattle.tx_run.specs.declared.doing.Start.{Start}
use Rattle.tx_run.specs.Runs.{AnyEnds, ComesPlain, CarriesOut, FailsNow, Leads}
use Rattle.tx_run.proofs.RunLemmas.{leads-map}
use Rattle.tx_run.proofs.ReadingLemmas.{value-overfull, ends-with, given-reading, given-command, carried, concluded, suits-value, waits-first}
use Rattle.tx_run.proofs.run.Run.gives.Goals as goal

-- more tokens are pending than may be
pub returns-then-is_overfull-clause-leads : goal.returns-then-is_overfull-clause-leads
returns-then-is_overfull-clause-leads c = λ g is.
    let frozen = meanings c.args.format.now.frozen in
    let v = value_in g.view c.args.value in
    leads-map (FailsNow frozen (numbered 57 4 (pos 0)) g c.args.self.now.scene) (AnyEnds g frozen v c.args.self.now) g frozen c.overfull.result c.overfull.new.self
    (λ r p. value-overfull g frozen v c.args.self.now r (λ depth. sym (c.is_overfull.ensures g frozen depth) ∙ c.if-is_overfull.true) p)
    (c.overfull.ensures.leads g is)

-- the command is given the value
pub returns-in-None-clause-leads : goal.returns-in-None-clause-leads
returns-in-None-clause-leads c = λ g is.
    let run = c.args.self.now in
    let frozen = meanings c.args.format.now.frozen in
    let v = value_in g.view c.args.value in
    leads-map (ComesGiven (commands.open_of g.view run.command) (private.Given v) [] (world g frozen 0 run.scene)) (AnyEnds g frozen v run) g frozen c.conclude.result c.conclude.new.self
    (λ r p. ends-with g frozen v run r (λ depth. sym (c.is_overfull.ensures g frozen depth) ∙ c.if-is_overfull.false) (given-command g frozen run.frames run (private.Given v) r c.in-None.ensures.none p))
    (subst (λ (i : private.Item). Leads (ComesGiven (commands.open_of g.view run.command) i [] (world g frozen 0 run.scene)) g frozen c.conclude.result c.conclude.new.self) (c.of_value-item.ensures.same g.view)
    (concluded c.args.format.now g run.command c.of_value-item.result c.feed-outcome.result (record run { frames = c.pop.new.self }) c.conclude.result c.conclude.new.self is c.conclude.ensures.concludes (λ w. c.feed-outcome.ensures.becomes g.view w)))

-- the innermost reading is given it
pub returns-in-Some-clause-leads : goal.returns-in-Some-clause-leads
returns-in-Some-clause-leads c = λ g is.
    let run = c.args.self.now in
    let frozen = meanings c.args.format.now.frozen in
    let v = value_in g.view c.args.value in
    let f = c.in-Some.frame in
    let rest = record run { frames = c.pop.new.self } in
    leads-map (ComesPlain g frozen f (private.Given v) rest) (AnyEnds g frozen v run) g frozen c.carry.result c.carry.new.self
    (λ r p. ends-with g frozen v run r (λ depth. sym (c.is_overfull.ensures g frozen depth) ∙ c.if-is_overfull.false) (given-reading g frozen f c.pop.new.self run.frames run (private.Given v) r c.in-Some.ensures.some p))
    (carried c.args.format.now g f (item.Given c.args.value) c.feed-answer.result rest c.carry.result c.carry.new.self is
    (subst (λ (s : Start). CarriesOut c.args.format.now s c.feed-answer.result rest c.carry.result c.carry.new.self) c.start_of-begun.ensures c.carry.ensures.carries)
    (λ w. c.feed-answer.ensures.becomes g.view w))

-- each item is one that is waited for
pub feed-outcome-requires : goal.feed-outcome-requires
feed-outcome-requires c = c.of_value-item.ensures.suits c.args.self.now.command

pub feed-answer-requires : goal.feed-answer-requires
feed-answer-requires c = suits-value c.in-Some.frame c.args.value (waits-first c.in-Some.frame c.pop.new.self c.args.self.now.frames c.in-Some.ensures.some c.requires.waits).0

pub returns-in-None-clause-knows : goal.returns-in-None-clause-knows
returns-in-None-clause-knows c names format scene behind value =
    let known = known_by names c.args.self.now.scene in
    c.conclude.ensures.knows names format scene (c.feed-outcome.ensures.knows known behind.control (c.of_value-item.ensures.knows known value))

pub returns-in-Some-clause-knows : goal.returns-in-Some-clause-knows
returns-in-Some-clause-knows c names format scene behind value =
    let run = c.args.self.now in
    let known = known_by names run.scene in
    let parts = first-known known run.frames c.in-Some.frame c.pop.new.self c.in-Some.ensures.some behind.readings in
    c.carry.ensures.knows names format scene (record { readings = parts.1; control = behind.control }) (subst (λ s. KnowsStart known s) (sym c.start_of-begun.ensures) (start-known known c.in-Some.frame parts.0)) (c.feed-answer.ensures.knows known parts.0 value)
