use Rattle.tx_private.specs.Meanings.{OfCode}
use Rattle.tx_private.specs.Quantities.{byte_first}
use Rattle.tx_private.specs.Assignments.{assign_at}
use Rattle.tx_private.specs.Controls.{names}
use Rattle.tx_assign.specs.Assigned.{prefixes_in}
use Rattle.tx_commands.proofs.Same.{makes-same}
use Rattle.tx_commands.proofs.define.coded.Goals as goal

pub returns-in-None-clause-becomes : goal.returns-in-None-clause-becomes
returns-in-None-clause-becomes c = λ view w.
    makes-same view _ _ w _ (λ items v. c.in-None.ensures (λ table. byte_first 16 (λ b rest u. assign_at (prefixes_in c.args.prefixes) (OfCode table b) rest u) items v) (names (prefixes_in c.args.prefixes) c.args.assignment items v)) (c.named.ensures.becomes view w)
