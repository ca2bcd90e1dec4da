use Rattle.tx_commands.proofs.named.number_given.Goals as goal

pub returns-in-Amount-clause-becomes : goal.returns-in-Amount-clause-becomes
returns-in-Amount-clause-becomes c = rw c.in-Amount.is c.number.ensures.becomes

pub returns-in-Amount-clause-knows : goal.returns-in-Amount-clause-knows
returns-in-Amount-clause-knows c = rw c.in-Amount.is c.number.ensures.knows
