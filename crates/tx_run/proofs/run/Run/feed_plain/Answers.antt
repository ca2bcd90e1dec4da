use Rattle.tx_run.proofs.KnowledgeLemmas.{start-known}
use Rattle.tx_run.specs.Knowledge.{known_by, KnowsStart}
use Rattle.std.proofs.Common.{[], ◌∷◌, subst, sym}
use Rattle.tx_eqtb.specs.Meanings.{meanings}
use Rattle.tx_private.specs.Readings as private
use Rattle.tx_private.specs.Scans.{letter_of}
use Rattle.tx_views.specs.Views.{viewed}
use Rattle.tx_frames.specs.declared.value.Item.TheVariants as item
use Rattle.tx_frames.specs.Values.{command_in}
use Rattle.tx_run.specs.declared.doing.Start.{Start}
use Rattle.tx_run.specs.Readings.{letter_given}
use Rattle.tx_run.specs.Runs.{ComesPlain, CarriesOut}
use Rattle.tx_run.proofs.ReadingLemmas.{leads-lettered, carried}
use Rattle.tx_run.proofs.run.Run.feed_plain.Goals as goal

-- the token is given, and its code where it is asked for
pub returns-clause-leads : goal.returns-clause-leads
returns-clause-leads c = λ g is.
    let run = c.args.self.now in
    let format = c.args.format.now in
    let frozen = meanings format.frozen in
    let f = c.args.frame in
    let t = c.args.token in
    let answer = c.feed_token-answer.result in
    let tick = c.carry.result in
    let new = c.carry.new.self in
    let carries = subst (λ (s : Start). CarriesOut format s answer run tick new) c.start_of-begun.ensures c.carry.ensures.carries in
    leads-lettered (letter_given (f ∷ []) c.args.letter) (letter_given (f ∷ []) (letter_of (viewed g.view t))) (ComesPlain g frozen f (private.Tok (command_in g.view t c.args.sense)) run) g frozen tick new (c.carry.ensures.fails g is)
    (λ same. carried format g f (item.Token t c.args.sense) answer run tick new is carries (λ w. c.feed_token-answer.ensures.becomes g.view w same))

pub returns-clause-knows : goal.returns-clause-knows
returns-clause-knows c names format scene behind frame token means =
    let known = known_by names c.args.self.now.scene in
    c.carry.ensures.knows names format scene behind (subst (λ s. KnowsStart known s) (sym c.start_of-begun.ensures) (start-known known c.args.frame frame)) (c.feed_token-answer.ensures.knows known frame token means)
