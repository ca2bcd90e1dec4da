use Rattle.tx_commands.proofs.assign.equals_given.Goals as goal

pub returns-in-Nothing-clause-becomes : goal.returns-in-Nothing-clause-becomes
returns-in-Nothing-clause-becomes c = rw c.in-Nothing.is c.value_due.ensures.becomes

pub returns-in-Nothing-clause-knows : goal.returns-in-Nothing-clause-knows
returns-in-Nothing-clause-knows c = λ known k i. c.value_due.ensures.knows known k
