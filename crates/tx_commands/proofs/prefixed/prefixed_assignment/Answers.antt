use Rattle.tx_commands.proofs.prefixed.prefixed_assignment.Goals as goal

pub returns-in-None-clause-becomes : goal.returns-in-None-clause-becomes
returns-in-None-clause-becomes c = rw (← c.in-None.ensures) c.flagged_assignment.ensures.becomes
