-- proofs/back/answered/Answers.antt
use Rattle.std.proofs.Common.{subst}
use Rattle.tx_amounts.specs.Names.{IsWithin, tokens_back}
use Rattle.tx_amounts.specs.Backs.{given}
use Rattle.tx_amounts.proofs.NameLemmas.{within-noted}
use Rattle.tx_amounts.proofs.back.answered.Goals as goal

pub returns-in-Ok-clause-names : goal.returns-in-Ok-clause-names
returns-in-Ok-clause-names c =
    within-noted c.args.taken.now.items c.push.new.self.items c.args.token (tokens_back c.with_back.result) c.in-Ok.ensures.items
    (subst (λ taken. IsWithin (tokens_back c.with_back.result) (given taken)) c.as_slice.ensures.value c.with_back.ensures.names)
