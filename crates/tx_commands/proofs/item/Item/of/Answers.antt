use Rattle.tx_commands.proofs.item.Item.of.Goals as goal

pub returns-in-Given-clause-knows : goal.returns-in-Given-clause-knows
returns-in-Given-clause-knows c = rw c.in-Given.is c.of_value.ensures.knows
