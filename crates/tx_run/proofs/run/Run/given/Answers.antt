use Rattle.tx_environment.specs.Holding.{HasNoPooled}
use Rattle.tx_run.proofs.KnowledgeLemmas.{sense-held, first-known}
use Rattle.tx_run.specs.Knowledge.{known_by}
use Rattle.std.proofs.Common.{◌≡◌, ℕ, List, [], ◌∷◌, sym, ◌∙◌, subst}
use Rattle.tx_eqtb.specs.Meanings.{meanings}
use Rattle.tx_private.specs.Environment.{meaning_of}
use Rattle.tx_private.specs.Readings as private
use Rattle.tx_private.specs.Scans.{letter_of}
use Rattle.tx_opens.specs.Opens.{ComesGiven}
use Rattle.tx_views.specs.Views.{viewed}
use Rattle.tx_views.specs.Meanings.{sense_in}
use Rattle.tx_frames.specs.declared.frame.Frame.{Frame}
use Rattle.tx_frames.specs.Values.{command_in}
use Rattle.tx_commands.specs.declared.item.Item.TheVariants as command_item
use Rattle.tx_commands.specs.Items.{item_in}
use Rattle.tx_commands.specs.Commands as commands
use Rattle.tx_scene.specs.Scenes.{world}
use Rattle.tx_run.specs.declared.doing.Taker.TheVariants as taker
use Rattle.tx_run.specs.Readings.{letter_given}
use Rattle.tx_run.specs.Runs.{ComesTaken, ComesPlain}
use Rattle.tx_run.proofs.RunLemmas.{leads-map}
use Rattle.tx_run.proofs.ReadingLemmas.{taken-token, given-reading, given-command, concluded, letter-first}
use Rattle.tx_run.proofs.run.Run.given.Goals as goal

-- the command is given the token
pub returns-in-None-clause-leads : goal.returns-in-None-clause-leads
returns-in-None-clause-leads c = λ g is.
    let run = c.args.self.now in
    let frozen = meanings c.args.format.now.frozen in
    let t = c.args.token in
    let sense = c.sense-sense.result in
    let means : (depth : ℕ) → sense_in g.view sense ≡ meaning_of (world g frozen depth run.scene).environment (viewed g.view t) =
    λ depth. subst (λ f. sense_in g.view sense ≡ meaning_of (world g (meanings f) depth run.scene).environment (viewed g.view t)) c.frozen.ensures (c.sense-sense.ensures.means g depth is.ground) in
    let item = command_item.Token t sense in
    leads-map (ComesGiven (commands.open_of g.view run.command) (item_in g.view item) [] (world g frozen 0 run.scene))
    (λ r. letter_given run.frames c.args.letter ≡ letter_given run.frames (letter_of (viewed g.view t)) → ComesTaken g frozen taker.Innermost t run r) g frozen c.conclude.result c.conclude.new.self
    (λ r p same. taken-token g frozen taker.Innermost t sense run r means (given-command g frozen run.frames run (private.Tok (command_in g.view t sense)) r c.in-None.ensures.none p))
    (concluded c.args.format.now g run.command item c.feed-outcome.result (record run { frames = c.pop.new.self }) c.conclude.result c.conclude.new.self is c.conclude.ensures.concludes (λ w. c.feed-outcome.ensures.becomes g.view w))

-- the innermost reading is given it
pub returns-in-Some-clause-leads : goal.returns-in-Some-clause-leads
returns-in-Some-clause-leads c = λ g is.
    let run = c.args.self.now in
    let frozen = meanings c.args.format.now.frozen in
    let t = c.args.token in
    let letter = c.args.letter in
    let sense = c.sense-sense.result in
    let f = c.in-Some.frame in
    let rest = c.pop.new.self in
    let means : (depth : ℕ) → sense_in g.view sense ≡ meaning_of (world g frozen depth run.scene).environment (viewed g.view t) =
    λ depth. subst (λ f. sense_in g.view sense ≡ meaning_of (world g (meanings f) depth run.scene).environment (viewed g.view t)) c.frozen.ensures (c.sense-sense.ensures.means g depth is.ground) in
    let i = private.Tok (command_in g.view t sense) in
    let code = letter_of (viewed g.view t) in
    let split : run.frames ≡ f ∷ rest = c.in-Some.ensures.some in
    leads-map (λ r. letter_given (f ∷ []) letter ≡ letter_given (f ∷ []) code → ComesPlain g frozen f i (record run { frames = rest }) r)
    (λ r. letter_given run.frames letter ≡ letter_given run.frames code → ComesTaken g frozen taker.Innermost t run r) g frozen c.feed_plain.result c.feed_plain.new.self
    (λ r p same. taken-token g frozen taker.Innermost t sense run r means
    (given-reading g frozen f rest run.frames run i r split
    (p (sym (letter-first f rest letter) ∙ subst (λ (fs : List Frame). letter_given fs letter ≡ letter_given fs code) split same ∙ letter-first f rest code))))
    (c.feed_plain.ensures.leads g is)

pub returns-in-None-clause-knows : goal.returns-in-None-clause-knows
returns-in-None-clause-knows c names format scene behind token =
    let run = c.args.self.now in
    let held = c.sense-sense.ensures.holds (subst (λ f. HasNoPooled (meanings f)) (sym c.frozen.ensures) format.none) in
    let means = sense-held names run.scene c.sense-sense.result held in
    c.conclude.ensures.knows names format scene (c.feed-outcome.ensures.knows (known_by names run.scene) behind.control (token, means))

pub returns-in-Some-clause-knows : goal.returns-in-Some-clause-knows
returns-in-Some-clause-knows c names format scene behind token =
    let run = c.args.self.now in
    let held = c.sense-sense.ensures.holds (subst (λ f. HasNoPooled (meanings f)) (sym c.frozen.ensures) format.none) in
    let means = sense-held names run.scene c.sense-sense.result held in
    let parts = first-known (known_by names run.scene) run.frames c.in-Some.frame c.pop.new.self c.in-Some.ensures.some behind.readings in
    c.feed_plain.ensures.knows names format scene (record { readings = parts.1; control = behind.control }) parts.0 token means
