use Rattle.tx_commands.proofs.after.after_given.Goals as goal

pub returns-in-Group-clause-becomes : goal.returns-in-Group-clause-becomes
returns-in-Group-clause-becomes c = rw c.in-Group.is c.after_group_given.ensures.becomes

pub returns-in-Assignment-clause-becomes : goal.returns-in-Assignment-clause-becomes
returns-in-Assignment-clause-becomes c = rw c.in-Assignment.is c.after_assignment_given.ensures.becomes
