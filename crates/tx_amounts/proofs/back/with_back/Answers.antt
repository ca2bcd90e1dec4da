-- proofs/back/with_back/Answers.antt
use Rattle.std.proofs.Common.{subst}
use Rattle.tx_amounts.specs.Names.{Names}
use Rattle.tx_amounts.proofs.NameLemmas.{within-last}
use Rattle.tx_amounts.proofs.back.with_back.Goals as goal

pub returns-in-Ok-clause-names : goal.returns-in-Ok-clause-names
returns-in-Ok-clause-names c n h = within-last c.in-More.back c.args.taken.now n (subst (λ tokens. Names n tokens) c.in-Ok.ensures h)

pub returns-in-Ok-last_tokens-clause-names : goal.returns-in-Ok-last_tokens-clause-names
returns-in-Ok-last_tokens-clause-names c n h = within-last c.in-Done.back c.args.taken.now n (subst (λ tokens. Names n tokens) c.in-Ok-last_tokens.ensures h)
