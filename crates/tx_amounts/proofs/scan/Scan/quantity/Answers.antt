-- proofs/scan/Scan/quantity/Answers.antt
use Rattle.std.proofs.Common.{[], ◌++◌, refl, subst}
use Rattle.tx_amounts.specs.Automata.{reading}
use Rattle.tx_amounts.specs.Backs.{given, IsAnswer}
use Rattle.tx_amounts.specs.Names.{IsWithin, begun_tokens, tokens_back}
use Rattle.tx_amounts.proofs.TellLemmas.{tells-quantity, quantity-begun}
use Rattle.tx_amounts.proofs.NameLemmas.{within-both, names-behind}
use Rattle.tx_amounts.proofs.scan.Scan.quantity.Goals as goal

pub returns-clause-says : goal.returns-clause-says
returns-clause-says c view =
    let old = c.args.self.now in
    let begun = quantity-begun old.begun (reading old.automaton []) c.requires in
    tells-quantity view c.with_back.result c.quantity-answer.result old _ c.args.q begun.0 begun.1 refl c.quantity-answer.ensures.same refl c.quantity-answer.ensures.answer
    (subst (λ taken. IsAnswer c.with_back.result c.quantity-answer.result taken) c.as_slice.ensures.value c.with_back.ensures.answer)

pub returns-clause-names : goal.returns-clause-names
returns-clause-names c =
    let old = c.args.self.now in
    let back = subst (λ taken. IsWithin (tokens_back c.with_back.result) (given taken)) c.as_slice.ensures.value c.with_back.ensures.names in
    within-both (given old.taken.items) (tokens_back c.with_back.result) (begun_tokens old.begun ++ given old.taken.items)
    (λ n h. names-behind n (begun_tokens old.begun) (given old.taken.items) h)
    (λ n h. names-behind n (begun_tokens old.begun) (given old.taken.items) (back n h))
