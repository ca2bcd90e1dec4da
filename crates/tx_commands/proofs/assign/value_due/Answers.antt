use Rattle.tx_commands.proofs.assign.value_due.Goals as goal

pub returns-clause-knows : goal.returns-clause-knows
returns-clause-knows c = λ known k. (k, c.value_reading.ensures.knows known)
