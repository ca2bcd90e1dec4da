use Rattle.tx_commands.proofs.named.let_start_given.Goals as goal

pub returns-in-Token-clause-becomes : goal.returns-in-Token-clause-becomes
returns-in-Token-clause-becomes c = rw c.in-Token.is c.let_start.ensures.becomes

pub returns-in-Token-clause-knows : goal.returns-in-Token-clause-knows
returns-in-Token-clause-knows c = rw c.in-Token.is c.let_start.ensures.knows
