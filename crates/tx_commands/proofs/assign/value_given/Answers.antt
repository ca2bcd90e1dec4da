use Rattle.tx_commands.proofs.assign.value_given.Goals as goal

pub returns-in-Amount-clause-becomes : goal.returns-in-Amount-clause-becomes
returns-in-Amount-clause-becomes c = λ view w. rw c.in-Amount.is (c.amount_given.ensures.becomes view w c.args.reading)

pub returns-in-Amount-clause-knows : goal.returns-in-Amount-clause-knows
returns-in-Amount-clause-knows c = λ known k i. c.amount_given.ensures.knows known k.0
