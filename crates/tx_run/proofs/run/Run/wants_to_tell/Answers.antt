use Rattle.tx_run.specs.declared.run.Run.{Run}
use Rattle.tx_run.proofs.KnowledgeLemmas.{known-on, tokens-described, known-tokens}
use Rattle.tx_run.specs.Knowledge.{known_by}
use Rattle.std.proofs.Common.{Some, refl, sym, ◌∙◌, ap, subst}
use Rattle.std.specs.Prelude.{IsTrue}
use Rattle.tx_eqtb.specs.Meanings.{meanings}
use Rattle.tx_tok.specs.declared.tok.ListRef.TheVariants as list
use Rattle.tx_describe.specs.Descriptions.{text_in, is_content}
use Rattle.tx_run.specs.declared.doing.Doing.TheVariants as doing
use Rattle.tx_run.specs.Runs.{asked_after, asked_for}
use Rattle.tx_run.proofs.TextLemmas.{tells-on, told-kept}
use Rattle.tx_run.proofs.run.Run.wants_to_tell.Goals as goal

-- what is wanted is asked for
pub returns-in-Text-clause-leads : goal.returns-in-Text-clause-leads
returns-in-Text-clause-leads c = λ g ground r after.
    let run = c.args.self.now in
    told-kept g (meanings c.args.format.now.frozen) c.args.told (text_in g.view run.scene.environment.cats c.args.description) run (doing.Tells c.args.told c.args.description) run.moves r after

pub returns-in-Text-clause-asked : goal.returns-in-Text-clause-asked
returns-in-Text-clause-asked c = λ fallen.
    ap (λ f. asked_after f (doing.Tells c.args.told c.args.description)) fallen ∙ ap asked_for (c.requires.wants ∙ ap Some c.in-Text.is)

pub returns-in-Content-clause-leads : goal.returns-in-Content-clause-leads
returns-in-Content-clause-leads c = λ g ground r after.
    let run = c.args.self.now in
    told-kept g (meanings c.args.format.now.frozen) c.args.told (text_in g.view run.scene.environment.cats c.args.description) run (doing.Tells c.args.told c.args.description) run.moves r after

pub returns-in-Content-clause-asked : goal.returns-in-Content-clause-asked
returns-in-Content-clause-asked c = λ fallen.
    ap (λ f. asked_after f (doing.Tells c.args.told c.args.description)) fallen ∙ ap asked_for (c.requires.wants ∙ ap Some c.in-Content.is)

-- a list of the format needs no operation
pub content-requires : goal.content-requires
content-requires c = subst (λ wanted. IsTrue (is_content wanted)) (sym (c.requires.wants ∙ ap Some c.in-Frozen.is)) refl

pub returns-in-Ok-clause-leads : goal.returns-in-Ok-clause-leads
returns-in-Ok-clause-leads c = λ g ground r after.
    let run = c.args.self.now in
    let frozen = meanings c.args.format.now.frozen in
    let cats = run.scene.environment.cats in
    let place = c.in-Frozen.place in
    let new = c.content.new.self in
    tells-on g frozen c.args.told c.args.description new run r
    (c.content.ensures.text g.view cats (list.Frozen place) (c.requires.wants ∙ ap Some c.in-Frozen.is) (ground.lists place c.in-Ok.ensures.list.1 ∙ sym c.in-Ok.ensures.list.0))
    (told-kept g frozen c.args.told (text_in g.view cats new) run (doing.Tells c.args.told new) run.moves r after)

pub returns-in-Ok-clause-knows : goal.returns-in-Ok-clause-knows
returns-in-Ok-clause-knows c names format scene described =
    let old = c.args.self.now in
    let known = known_by names old.scene in
    let new : Run = record old { doing = doing.Tells c.args.told c.content.new.self } in
    known-on names old.scene new refl scene (c.content.ensures.knows names known.list (tokens-described known c.in-Ok.tokens (known-tokens known c.in-Ok.tokens (c.in-Ok.ensures.knows names format)))) tt
