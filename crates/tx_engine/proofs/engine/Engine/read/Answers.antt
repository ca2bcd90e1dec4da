use Rattle.std.proofs.Common.{◌≡◌, ℕ, ◌<◌, Some, arith, refl, sym, ap, subst, ◌∙◌}
use Rattle.tx_run.specs.declared.op.Op.TheVariants as op
use Rattle.tx_input.specs.Worlds.{AllKnown}
use Rattle.tx_store.specs.Steps.{Same, content_of, count_of}
use Rattle.tx_engine.specs.Agreement.{known_names}
use Rattle.tx_engine.specs.Steps.{due}
use Rattle.tx_engine.proofs.AgreementLemmas.{agrees-earlier, same-knows, same-holds, knows-more, more-tokens, some-held}
use Rattle.tx_engine.proofs.AnswerLemmas.{carries-on, same-goes}
use Rattle.tx_engine.proofs.AskedLemmas.{list-number}
use Rattle.tx_engine.proofs.engine.Engine.read.Goals as goal

pub returns-clause-carries : goal.returns-clause-carries
returns-clause-carries c =
    let old = c.args.self.now in
    let new = record old { run = c.read.new.self } in
    let number = list-number (due old) c.requires.due in
    let id = number.0 in
    carries-on (λ before after. Same before after × ((n : ℕ) → due old ≡ Some (op.Read n) → content_of (before.row n) ≡ c.args.tokens)) old new c.requires.phase refl c.read.ensures.keeps refl
    (λ earlier later after serves knows.
    let on = same-knows after.0.0 in
    let held : 0 < count_of (earlier.row id) = omega (arith, serves.row id, c.knows_asked.ensures (known_names earlier) (op.Read id) knows number.1) in
    let there = some-held (earlier.row id) held in
    let content : there.0.content ≡ c.args.tokens = ap content_of (sym there.1) ∙ after.1 id number.1 in
    let known : AllKnown (known_names earlier) c.args.tokens = subst (λ ts. AllKnown (known_names earlier) ts) content (serves.lists id there.0 there.1) in
    let more = knows-more on in
    same-goes old new earlier later after.0 serves c.read.ensures.holds refl
    (c.read.ensures.knows (known_names later) (more-tokens (known_names earlier) (known_names later) more c.args.tokens known) (c.knows_more.ensures (known_names earlier) (known_names later) more knows))
    (λ g agrees ground.
    c.read.ensures.answers g id number.1 ground ((agrees-earlier g on (same-holds after.0.1) agrees).row id there.0 there.1 ∙ content)))
