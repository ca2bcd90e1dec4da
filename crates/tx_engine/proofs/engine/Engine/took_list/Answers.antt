use Rattle.std.proofs.Common.{◌≡◌, ℕ, Some, refl, ◌+◌}
use Rattle.tx_run.specs.declared.op.Op.TheVariants as op
use Rattle.tx_store.specs.Steps.{AfterTake}
use Rattle.tx_engine.specs.Agreement.{known_names}
use Rattle.tx_engine.specs.Steps.{due}
use Rattle.tx_engine.proofs.AnswerLemmas.{carries-on}
use Rattle.tx_engine.proofs.ListLemmas.{took-goes}
use Rattle.tx_engine.proofs.engine.Engine.took_list.Goals as goal

pub returns-clause-carries : goal.returns-clause-carries
returns-clause-carries c =
    let old = c.args.self.now in
    let new = record old { run = c.took_list.new.self; references = old.references + 1 } in
    carries-on (λ before after. (id : ℕ) × (due old ≡ Some (op.Take id)) × AfterTake before id after) old new c.requires.phase refl c.took_list.ensures.keeps refl
    (λ earlier later after serves knows.
    took-goes old new earlier later serves knows c.knows_more.ensures c.took_list.ensures.knows after.0 after.2
    (c.took_list.ensures.holds (known_names earlier) knows after.0 after.1) refl c.took_list.ensures.answers)
