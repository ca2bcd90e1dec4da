use Rattle.tx_commands.proofs.arithmetic.operand_due.Goals as goal

pub returns-clause-knows : goal.returns-clause-knows
returns-clause-knows c = λ known k. (k, c.operand_reading.ensures.knows known)
