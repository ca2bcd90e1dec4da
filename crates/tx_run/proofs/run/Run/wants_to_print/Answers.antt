use Rattle.tx_run.specs.declared.run.Run.{Run}
use Rattle.tx_run.proofs.KnowledgeLemmas.{known-on, tokens-described, known-tokens}
use Rattle.tx_run.specs.Knowledge.{known_by}
use Rattle.std.proofs.Common.{Some, refl, sym, ◌∙◌, ap, subst}
use Rattle.std.specs.Prelude.{IsTrue}
use Rattle.tx_eqtb.specs.Meanings.{meanings}
use Rattle.tx_tok.specs.declared.tok.ListRef.TheVariants as list
use Rattle.tx_describe.specs.Descriptions.{is_content}
use Rattle.tx_run.specs.declared.doing.Doing.TheVariants as doing
use Rattle.tx_run.specs.Runs.{asked_after, asked_for}
use Rattle.tx_run.proofs.TextLemmas.{prints-on}
use Rattle.tx_run.proofs.run.Run.wants_to_print.Goals as goal

-- what is wanted is asked for
pub returns-in-Text-clause-asked : goal.returns-in-Text-clause-asked
returns-in-Text-clause-asked c = λ fallen.
    ap (λ f. asked_after f (doing.Prints c.args.begun c.args.description)) fallen ∙ ap asked_for (c.requires.wants ∙ ap Some c.in-Text.is)

pub returns-in-Content-clause-asked : goal.returns-in-Content-clause-asked
returns-in-Content-clause-asked c = λ fallen.
    ap (λ f. asked_after f (doing.Prints c.args.begun c.args.description)) fallen ∙ ap asked_for (c.requires.wants ∙ ap Some c.in-Content.is)

-- a list of the format needs no operation
pub content-requires : goal.content-requires
content-requires c = subst (λ wanted. IsTrue (is_content wanted)) (sym (c.requires.wants ∙ ap Some c.in-Frozen.is)) refl

pub returns-in-Ok-clause-leads : goal.returns-in-Ok-clause-leads
returns-in-Ok-clause-leads c = λ g ground r after.
    let run = c.args.self.now in
    let place = c.in-Frozen.place in
    prints-on g (meanings c.args.format.now.frozen) c.args.begun c.args.description c.content.new.self run r
    (c.content.ensures.text g.view run.scene.environment.cats (list.Frozen place) (c.requires.wants ∙ ap Some c.in-Frozen.is) (ground.lists place c.in-Ok.ensures.list.1 ∙ sym c.in-Ok.ensures.list.0)) after

pub returns-in-Ok-clause-knows : goal.returns-in-Ok-clause-knows
returns-in-Ok-clause-knows c names format scene behind start described =
    let old = c.args.self.now in
    let known = known_by names old.scene in
    let new : Run = record old { doing = doing.Prints c.args.begun c.content.new.self } in
    known-on names old.scene new refl scene (start, c.content.ensures.knows names known.list (tokens-described known c.in-Ok.tokens (known-tokens known c.in-Ok.tokens (c.in-Ok.ensures.knows names format)))) behind
