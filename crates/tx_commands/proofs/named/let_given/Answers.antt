use Rattle.tx_commands.proofs.named.let_given.Goals as goal

pub returns-in-Start-clause-becomes : goal.returns-in-Start-clause-becomes
returns-in-Start-clause-becomes c = rw c.in-Start.is c.let_start_given.ensures.becomes

pub returns-in-Equals-clause-becomes : goal.returns-in-Equals-clause-becomes
returns-in-Equals-clause-becomes c = rw c.in-Equals.is c.let_equals_given.ensures.becomes

pub returns-in-Last-clause-becomes : goal.returns-in-Last-clause-becomes
returns-in-Last-clause-becomes c = rw c.in-Last.is c.let_last_given.ensures.becomes
