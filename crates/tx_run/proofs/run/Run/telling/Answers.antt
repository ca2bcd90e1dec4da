use Rattle.tx_run.specs.declared.run.Run.{Run}
use Rattle.tx_run.proofs.KnowledgeLemmas.{known-on}
use Rattle.tx_run.specs.Knowledge.{known_by}
use Rattle.std.proofs.Common.{◌≡◌, sym, subst, ◌∙◌, refl}
use Rattle.tx_eqtb.specs.Meanings.{meanings}
use Rattle.tx_describe.specs.Descriptions.{text_in}
use Rattle.tx_run.specs.declared.doing.Doing.TheVariants as doing
use Rattle.tx_run.specs.Runs.{Does, ComesTold, Leads}
use Rattle.tx_run.proofs.RunLemmas.{leads-map}
use Rattle.tx_run.proofs.TextLemmas.{tells-on, told-kept}
use Rattle.tx_run.proofs.run.Run.telling.Goals as goal

-- a piece more is printed
pub returns-in-Went-clause-leads : goal.returns-in-Went-clause-leads
returns-in-Went-clause-leads c = λ g ground r after.
    let frozen = meanings c.args.format.now.frozen in
    let run = c.args.self.now in
    let cats = run.scene.environment.cats in
    tells-on g frozen c.args.told c.args.description c.go.new.self run r (c.go.ensures.text g.view cats ground.ground.view)
    (told-kept g frozen c.args.told (text_in g.view cats c.go.new.self) run (doing.Tells c.args.told c.go.new.self) run.moves r after)

-- something is wanted
pub returns-in-Wants-clause-leads : goal.returns-in-Wants-clause-leads
returns-in-Wants-clause-leads c = λ g ground.
    let frozen = meanings c.args.format.now.frozen in
    let run = c.args.self.now in
    leads-map (Does g frozen (doing.Tells c.args.told c.go.new.self) run) (Does g frozen (doing.Tells c.args.told c.args.description) run) g frozen c.wants_to_tell.result c.wants_to_tell.new.self
    (λ r after. tells-on g frozen c.args.told c.args.description c.go.new.self run r (c.go.ensures.text g.view run.scene.environment.cats ground.ground.view) after)
    (c.wants_to_tell.ensures.leads g ground)

-- all is printed
pub returns-in-Done-clause-leads : goal.returns-in-Done-clause-leads
returns-in-Done-clause-leads c = λ g ground.
    let frozen = meanings c.args.format.now.frozen in
    let run = c.args.self.now in
    let cats = run.scene.environment.cats in
    let whole : c.as_slice.result.now ≡ text_in g.view cats c.args.description =
    c.as_slice.ensures.value ∙ c.into_text-text.ensures ∙ sym (c.in-Done.ensures.progress.1.1 g.view cats) ∙ c.go.ensures.text g.view cats ground.ground.view in
    subst (λ text. Leads (ComesTold g frozen c.args.told text run) g frozen c.tell.result c.tell.new.self) whole (c.tell.ensures.leads g ground)

pub returns-in-Went-clause-knows : goal.returns-in-Went-clause-knows
returns-in-Went-clause-knows c names format scene described =
    let old = c.args.self.now in
    let new : Run = record old { doing = doing.Tells c.args.told c.go.new.self } in
    known-on names old.scene new refl scene (c.go.ensures.knows names (known_by names old.scene).list described) tt
