use Rattle.tx_commands.proofs.named.stand_given.Goals as goal

pub returns-in-Equals-clause-becomes : goal.returns-in-Equals-clause-becomes
returns-in-Equals-clause-becomes c = rw c.in-Equals.is c.equals_given.ensures.becomes

pub returns-in-Number-clause-becomes : goal.returns-in-Number-clause-becomes
returns-in-Number-clause-becomes c = rw c.in-Number.is c.number_given.ensures.becomes
