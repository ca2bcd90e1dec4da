use Rattle.tx_private.specs.Meanings.{OfRegister}
use Rattle.tx_private.specs.Quantities.{byte_first}
use Rattle.tx_private.specs.Assignments.{assign_at}
use Rattle.tx_assign.specs.Assigned.{prefixes_in}
use Rattle.tx_commands.specs.Stages.{coded_or_named}
use Rattle.tx_commands.proofs.Same.{makes-same}
use Rattle.tx_commands.proofs.define.assignment.Goals as goal

pub returns-in-None-clause-becomes : goal.returns-in-None-clause-becomes
returns-in-None-clause-becomes c = λ view w.
    makes-same view _ _ w _ (λ items v. c.in-None.ensures (λ kind. byte_first 15 (λ n rest u. assign_at (prefixes_in c.args.prefixes) (OfRegister kind n) rest u) items v) (coded_or_named (prefixes_in c.args.prefixes) c.args.assignment items v)) (c.coded.ensures.becomes view w)
