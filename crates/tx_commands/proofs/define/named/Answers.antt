use Rattle.tx_commands.proofs.Same.{makes-same}
use Rattle.tx_assign.specs.Assigned.{prefixes_in}
use Rattle.tx_commands.proofs.define.named.Goals as goal

pub returns-in-Some-clause-becomes : goal.returns-in-Some-clause-becomes
returns-in-Some-clause-becomes c = λ view w. makes-same view _ _ w _ (λ items v. c.in-Some.ensures (prefixes_in c.args.prefixes) items v) (c.begun.ensures.becomes view w)
