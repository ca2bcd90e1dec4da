use Rattle.std.proofs.Common.{◌≡◌, ℕ, Some, refl}
use Rattle.tx_run.specs.declared.op.Op.TheVariants as op
use Rattle.tx_store.specs.Steps.{Same}
use Rattle.tx_engine.specs.Agreement.{known_names}
use Rattle.tx_engine.specs.Steps.{due}
use Rattle.tx_engine.proofs.AgreementLemmas.{agrees-earlier, same-knows, same-holds, knows-more}
use Rattle.tx_engine.proofs.AnswerLemmas.{carries-on, same-goes}
use Rattle.tx_engine.proofs.AskedLemmas.{text-number}
use Rattle.tx_engine.proofs.engine.Engine.text.Goals as goal

pub returns-clause-carries : goal.returns-clause-carries
returns-clause-carries c =
    let old = c.args.self.now in
    let new = record old { run = c.text.new.self } in
    let number = text-number (due old) c.requires.due in
    carries-on (λ before after. Same before after × ((n : ℕ) → due old ≡ Some (op.Text n) → before.names n ≡ Some c.args.text.now)) old new c.requires.phase refl c.text.ensures.keeps refl
    (λ earlier later after serves knows.
    same-goes old new earlier later after.0 serves c.text.ensures.holds refl
    (c.text.ensures.knows (known_names later) (c.knows_more.ensures (known_names earlier) (known_names later) (knows-more (same-knows after.0.0)) knows))
    (λ g agrees ground.
    c.text.ensures.answers g number.0 number.1 ground ((agrees-earlier g (same-knows after.0.0) (same-holds after.0.1) agrees).names number.0 c.args.text.now (after.1 number.0 number.1))))
