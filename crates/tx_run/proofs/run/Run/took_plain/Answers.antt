use Rattle.tx_run.specs.declared.doing.Doing.TheVariants as doing
use Rattle.tx_run.specs.declared.run.Run.{Run}
use Rattle.tx_frames.specs.Knowledge.{KnowsToken}
use Rattle.tx_run.proofs.KnowledgeLemmas.{known-on}
use Rattle.tx_run.specs.Knowledge.{known_by}
use Rattle.std.proofs.Common.{◌≡◌, None, sym, ◌∙◌, ap, subst, refl}
use Rattle.tx_eqtb.specs.Meanings.{meanings}
use Rattle.tx_tok.specs.declared.tok.Tok.{Tok}
use Rattle.tx_tok.specs.declared.tok.Tok.TheVariants as tok
use Rattle.tx_private.specs.Scans.{letter_of}
use Rattle.tx_views.specs.Views.{viewed}
use Rattle.tx_run.specs.declared.doing.Taker.TheVariants as taker
use Rattle.tx_run.specs.Readings.{letter_given}
use Rattle.tx_run.specs.Runs.{ComesTaken, Leads}
use Rattle.tx_run.proofs.RunLemmas.{leads-map}
use Rattle.tx_run.proofs.ReadingLemmas.{no-letter, letter-nameless}
use Rattle.tx_run.proofs.run.Run.took_plain.Goals as goal

-- the text of the name is asked for
pub returns-then-is_scan-clause-leads : goal.returns-then-is_scan-clause-leads
returns-then-is_scan-clause-leads c = λ g is r after.
    subst (λ (t : Tok). ComesTaken g (meanings c.args.format.now.frozen) taker.Innermost t c.args.self.now r) (sym c.in-Name.is) after

-- no code is asked for
pub returns-else-is_scan-clause-leads : goal.returns-else-is_scan-clause-leads
returns-else-is_scan-clause-leads c = λ g is.
    let run = c.args.self.now in
    let frozen = meanings c.args.format.now.frozen in
    let t = tok.Name c.in-Name.number in
    let code = letter_of (viewed g.view t) in
    subst (λ (x : Tok). Leads (ComesTaken g frozen taker.Innermost x run) g frozen c.given.result c.given.new.self) (sym c.in-Name.is)
    (leads-map (λ r. letter_given run.frames None ≡ letter_given run.frames code → ComesTaken g frozen taker.Innermost t run r) (ComesTaken g frozen taker.Innermost t run) g frozen c.given.result c.given.new.self
    (λ r p. p (no-letter run.frames None code (sym c.is_scan.ensures ∙ c.if-is_scan.false))) (c.given.ensures.leads g is))

-- the code is known
pub returns-in_default : goal.returns-in_default
returns-in_default c = record {
  leads = λ g is.
      let run = c.args.self.now in
      let frozen = meanings c.args.format.now.frozen in
      let t = c.args.token in
      let letter = c.letter_of.result in
      let code = letter_of (viewed g.view t) in
      leads-map (λ r. letter_given run.frames letter ≡ letter_given run.frames code → ComesTaken g frozen taker.Innermost t run r) (ComesTaken g frozen taker.Innermost t run) g frozen c.given-in_default.result c.given-in_default.new.self
      (λ r p. p (ap (letter_given run.frames) (c.letter_of.ensures ∙ letter-nameless g.view _ t c.in_default.not-Name))) (c.given-in_default.ensures.leads g is);
  sound = c.given-in_default.ensures.sound;
  keeps = c.given-in_default.ensures.keeps;
  asked = c.given-in_default.ensures.asked;
  knows = c.given-in_default.ensures.knows;
  holds = c.given-in_default.ensures.holds;
}

pub returns-then-is_scan-clause-knows : goal.returns-then-is_scan-clause-knows
returns-then-is_scan-clause-knows c names format scene behind token =
    let old = c.args.self.now in
    let known = known_by names old.scene in
    let new : Run = record old { doing = doing.Letter c.in-Name.number } in
    known-on names old.scene new refl scene (subst (λ (t : Tok). KnowsToken known t) c.in-Name.is token) behind

pub returns-else-is_scan-clause-knows : goal.returns-else-is_scan-clause-knows
returns-else-is_scan-clause-knows c names format scene behind token =
    c.given.ensures.knows names format scene behind (subst (λ (t : Tok). KnowsToken (known_by names c.args.self.now.scene) t) c.in-Name.is token)
