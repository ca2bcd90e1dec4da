use Rattle.std.proofs.Common.{◌≡◌, List, Some, refl, ap, ◌+◌}
use Rattle.tx_tok.specs.declared.tok.Tok.{Tok}
use Rattle.tx_run.specs.Runs.{shared_tokens}
use Rattle.tx_store.specs.Steps.{AfterShare}
use Rattle.tx_engine.proofs.AnswerLemmas.{carries-on}
use Rattle.tx_engine.proofs.ListLemmas.{shared-goes}
use Rattle.tx_engine.proofs.engine.Engine.shared.Goals as goal

pub returns-clause-carries : goal.returns-clause-carries
returns-clause-carries c =
    let old = c.args.self.now in
    let new = record old { run = c.shared.new.self; references = old.references + c.references.result } in
    carries-on (λ before after. (tokens : List Tok) × (shared_tokens old.run.doing ≡ Some tokens) × AfterShare before tokens c.args.list after) old new c.requires.phase refl c.shared.ensures.keeps refl
    (λ earlier later after serves knows.
    shared-goes old new earlier later serves knows c.knows_more.ensures c.shared.ensures.knows c.args.list after.0 after.1 after.2 c.shared.ensures.holds (ap (λ n. old.references + n) c.references.ensures)
    (λ g ground content. c.shared.ensures.answers g after.0 after.1 ground content))
