use Rattle.tx_commands.proofs.begin.begin_assignment.Goals as goal

pub returns-in-None-clause-becomes : goal.returns-in-None-clause-becomes
returns-in-None-clause-becomes c = rw (← c.in-None.ensures) c.assignment.ensures.becomes
