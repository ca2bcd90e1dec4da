use Rattle.tx_commands.proofs.arithmetic.arithmetic_given.Goals as goal

pub returns-in-Target-clause-becomes : goal.returns-in-Target-clause-becomes
returns-in-Target-clause-becomes c = rw c.in-Target.is c.target_given.ensures.becomes

pub returns-in-Target-clause-knows : goal.returns-in-Target-clause-knows
returns-in-Target-clause-knows c = rw c.in-Target.is c.target_given.ensures.knows

pub returns-in-Register-clause-becomes : goal.returns-in-Register-clause-becomes
returns-in-Register-clause-becomes c = rw c.in-Register.is c.register_given.ensures.becomes

pub returns-in-Register-clause-knows : goal.returns-in-Register-clause-knows
returns-in-Register-clause-knows c = rw c.in-Register.is c.register_given.ensures.knows

pub returns-in-By-clause-becomes : goal.returns-in-By-clause-becomes
returns-in-By-clause-becomes c = rw c.in-By.is c.by_given.ensures.becomes

pub returns-in-By-clause-knows : goal.returns-in-By-clause-knows
returns-in-By-clause-knows c = rw c.in-By.is c.by_given.ensures.knows

pub returns-in-Operand-clause-becomes : goal.returns-in-Operand-clause-becomes
returns-in-Operand-clause-becomes c = rw c.in-Operand.is c.operand_given.ensures.becomes

pub returns-in-Operand-clause-knows : goal.returns-in-Operand-clause-knows
returns-in-Operand-clause-knows c = rw c.in-Operand.is c.operand_given.ensures.knows
