use Rattle.tx_environment.specs.Holding.{HasNoPooled}
use Rattle.tx_run.specs.Knowledge.{known_by}
use Rattle.tx_run.proofs.KnowledgeLemmas.{sense-held}
use Rattle.std.proofs.Common.{◌≡◌, ℕ, sym, subst}
use Rattle.tx_eqtb.specs.Meanings.{meanings}
use Rattle.tx_private.specs.Environment.{meaning_of}
use Rattle.tx_private.specs.Readings as private
use Rattle.tx_opens.specs.Opens.{begun, ComesGiven}
use Rattle.tx_views.specs.Views.{viewed}
use Rattle.tx_views.specs.Meanings.{sense_in}
use Rattle.tx_frames.specs.Kinds.{expanded_kind}
use Rattle.tx_frames.specs.Values.{command_in}
use Rattle.tx_scene.specs.Scenes.{world}
use Rattle.tx_run.specs.declared.doing.Taker.{Taker}
use Rattle.tx_run.specs.declared.doing.Taker.TheVariants as taker
use Rattle.tx_run.specs.Runs.{opens, world_now, ComesTaken, Leads}
use Rattle.tx_run.proofs.RunLemmas.{leads-map}
use Rattle.tx_run.proofs.ReadingLemmas.{taken-token, expanded}
use Rattle.tx_run.proofs.run.Run.took.Goals as goal

-- the innermost reading takes it as it stands
pub returns-in-Innermost-clause-leads : goal.returns-in-Innermost-clause-leads
returns-in-Innermost-clause-leads c = λ g is.
    let frozen = meanings c.args.format.now.frozen in
    subst (λ (who : Taker). Leads (ComesTaken g frozen who c.args.token c.args.self.now) g frozen c.took_plain.result c.took_plain.new.self) (sym c.in-Innermost.is) (c.took_plain.ensures.leads g is)

-- it is expanded
pub returns-in-Expanded-clause-leads : goal.returns-in-Expanded-clause-leads
returns-in-Expanded-clause-leads c = λ g is.
    let run = c.args.self.now in
    let frozen = meanings c.args.format.now.frozen in
    let t = c.args.token in
    let text = c.in-Expanded.text in
    let sense = c.sense-sense.result in
    let means : (depth : ℕ) → sense_in g.view sense ≡ meaning_of (world g frozen depth run.scene).environment (viewed g.view t) =
    λ depth. subst (λ f. sense_in g.view sense ≡ meaning_of (world g (meanings f) depth run.scene).environment (viewed g.view t)) c.frozen.ensures (c.sense-sense.ensures.means g depth is.ground) in
    subst (λ (who : Taker). Leads (ComesTaken g frozen who t run) g frozen c.carry.result c.carry.new.self) (sym c.in-Expanded.is)
    (leads-map (ComesGiven (begun (expanded_kind text)) (private.Tok (command_in g.view t sense)) (opens g.view run) (world_now g frozen run)) (ComesTaken g frozen (taker.Expanded text) t run) g frozen c.carry.result c.carry.new.self
    (λ r p. taken-token g frozen (taker.Expanded text) t sense run r means p)
    (expanded c.args.format.now g text t sense c.expand-answer.result run c.carry.result c.carry.new.self is c.carry.ensures.carries (λ w. c.expand-answer.ensures.becomes g.view w)))

pub returns-in-Expanded-clause-knows : goal.returns-in-Expanded-clause-knows
returns-in-Expanded-clause-knows c names format scene behind token =
    let run = c.args.self.now in
    let held = c.sense-sense.ensures.holds (subst (λ f. HasNoPooled (meanings f)) (sym c.frozen.ensures) format.none) in
    let means = sense-held names run.scene c.sense-sense.result held in
    c.carry.ensures.knows names format scene behind tt (c.expand-answer.ensures.knows (known_by names run.scene) token means)
