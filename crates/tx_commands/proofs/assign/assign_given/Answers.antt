use Rattle.tx_commands.proofs.assign.assign_given.Goals as goal

pub returns-in-Register-clause-becomes : goal.returns-in-Register-clause-becomes
returns-in-Register-clause-becomes c = rw c.in-Register.is c.register_given.ensures.becomes

pub returns-in-Register-clause-knows : goal.returns-in-Register-clause-knows
returns-in-Register-clause-knows c = rw c.in-Register.is c.register_given.ensures.knows

pub returns-in-Code-clause-becomes : goal.returns-in-Code-clause-becomes
returns-in-Code-clause-becomes c = rw c.in-Code.is c.code_given.ensures.becomes

pub returns-in-Code-clause-knows : goal.returns-in-Code-clause-knows
returns-in-Code-clause-knows c = rw c.in-Code.is c.code_given.ensures.knows

pub returns-in-Equals-clause-becomes : goal.returns-in-Equals-clause-becomes
returns-in-Equals-clause-becomes c = rw c.in-Equals.is c.equals_given.ensures.becomes

pub returns-in-Equals-clause-knows : goal.returns-in-Equals-clause-knows
returns-in-Equals-clause-knows c = rw c.in-Equals.is c.equals_given.ensures.knows

pub returns-in-Value-clause-becomes : goal.returns-in-Value-clause-becomes
returns-in-Value-clause-becomes c = rw c.in-Value.is c.value_given.ensures.becomes

pub returns-in-Value-clause-knows : goal.returns-in-Value-clause-knows
returns-in-Value-clause-knows c = rw c.in-Value.is c.value_given.ensures.knows
