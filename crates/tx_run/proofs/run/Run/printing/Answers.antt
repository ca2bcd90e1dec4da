use Rattle.tx_run.specs.declared.run.Run.{Run}
use Rattle.tx_run.proofs.KnowledgeLemmas.{known-on, ok-known}
use Rattle.tx_run.specs.Knowledge.{known_by}
use Rattle.std.proofs.Common.{◌≡◌, sym, ◌∙◌, refl}
use Rattle.tx_eqtb.specs.Meanings.{meanings}
use Rattle.tx_private.specs.Texts.{tokens_of}
use Rattle.tx_describe.specs.Descriptions.{text_in}
use Rattle.tx_run.specs.declared.doing.Use.TheVariants as use_of
use Rattle.tx_run.specs.declared.doing.Doing.TheVariants as doing
use Rattle.tx_run.specs.Readings.{kind_of}
use Rattle.tx_run.specs.Runs.{opens, Does}
use Rattle.tx_run.proofs.RunLemmas.{leads-map}
use Rattle.tx_run.proofs.TextLemmas.{copied-text, front-text, prints-on}
use Rattle.tx_run.proofs.run.Run.printing.Goals as goal

-- something is wanted
pub returns-in-Wants-clause-leads : goal.returns-in-Wants-clause-leads
returns-in-Wants-clause-leads c = λ g ground.
    let frozen = meanings c.args.format.now.frozen in
    leads-map (Does g frozen (doing.Prints c.args.begun c.go.new.self) c.args.self.now) (Does g frozen (doing.Prints c.args.begun c.args.description) c.args.self.now) g frozen c.wants_to_print.result c.wants_to_print.new.self
    (λ r after. prints-on g frozen c.args.begun c.args.description c.go.new.self c.args.self.now r (c.go.ensures.text g.view c.args.self.now.scene.environment.cats ground.ground.view) after)
    (c.wants_to_print.ensures.leads g ground)

-- all is printed
pub returns-in-Done-clause-leads : goal.returns-in-Done-clause-leads
returns-in-Done-clause-leads c = λ g ground.
    let frozen = meanings c.args.format.now.frozen in
    let k = kind_of g.view c.args.begun in
    let around = opens g.view c.args.self.now in
    let cats = c.args.self.now.scene.environment.cats in
    let whole : c.as_slice.result.now ≡ text_in g.view cats c.args.description =
    c.as_slice.ensures.value ∙ c.into_text-text.ensures ∙ sym (c.in-Done.ensures.progress.1.1 g.view cats) ∙ c.go.ensures.text g.view cats ground.ground.view in
    copied-text g frozen k around use_of.Front c.args.self.now c.copied.new.self c.text_tokens-tokens.result c.copied.result (tokens_of c.as_slice.result.now) (Does g frozen (doing.Prints c.args.begun c.args.description) c.args.self.now)
    (c.copied.ensures.copied frozen g ground.ground) c.copied.ensures.memory c.text_tokens-tokens.ensures
    (λ r after. front-text g frozen k around c.args.self.now c.as_slice.result.now (λ w. text_in g.view cats c.args.description) r whole after)

pub returns-in-Went-clause-knows : goal.returns-in-Went-clause-knows
returns-in-Went-clause-knows c names format scene behind start described =
    let old = c.args.self.now in
    let new : Run = record old { doing = doing.Prints c.args.begun c.go.new.self } in
    known-on names old.scene new refl scene (start, c.go.ensures.knows names (known_by names old.scene).list described) behind

pub returns-in-Done-clause-knows : goal.returns-in-Done-clause-knows
returns-in-Done-clause-knows c names format scene behind start described =
    c.copied.ensures.knows names scene behind start (ok-known (known_by names c.args.self.now.scene) c.text_tokens-tokens.result _ c.text_tokens-tokens.ensures)
