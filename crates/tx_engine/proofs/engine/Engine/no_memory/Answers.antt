use Rattle.std.proofs.Common.{refl}
use Rattle.tx_store.specs.Steps.{Same}
use Rattle.tx_engine.specs.Agreement.{known_names}
use Rattle.tx_engine.proofs.AgreementLemmas.{same-knows, knows-more}
use Rattle.tx_engine.proofs.AnswerLemmas.{carries-on, same-goes}
use Rattle.tx_engine.proofs.AskedLemmas.{refusable-asked}
use Rattle.tx_engine.proofs.engine.Engine.no_memory.Goals as goal

pub returns-clause-carries : goal.returns-clause-carries
returns-clause-carries c =
    let old = c.args.self.now in
    let new = record old { run = c.no_memory.new.self } in
    carries-on Same old new c.requires.phase refl c.no_memory.ensures.keeps refl
    (λ earlier later same serves knows.
    same-goes old new earlier later same serves
    (c.no_memory.ensures.holds (refusable-asked old.run.fallen old.run.doing c.requires.due.0 c.requires.due.1 c.requires.due.2)) refl
    (c.no_memory.ensures.knows (known_names later) (c.knows_more.ensures (known_names earlier) (known_names later) (knows-more (same-knows same.0)) knows))
    (λ g agrees ground. c.no_memory.ensures.answers g ground))
