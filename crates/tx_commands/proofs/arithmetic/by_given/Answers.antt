use Rattle.tx_commands.proofs.arithmetic.by_given.Goals as goal

pub returns-in-Word-clause-becomes : goal.returns-in-Word-clause-becomes
returns-in-Word-clause-becomes c = rw c.in-Word.is c.operand_due.ensures.becomes

pub returns-in-Word-clause-knows : goal.returns-in-Word-clause-knows
returns-in-Word-clause-knows c = λ known k i. c.operand_due.ensures.knows known k
