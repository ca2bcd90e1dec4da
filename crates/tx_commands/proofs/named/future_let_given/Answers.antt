use Rattle.tx_commands.proofs.named.future_let_given.Goals as goal

pub returns-in-First-clause-becomes : goal.returns-in-First-clause-becomes
returns-in-First-clause-becomes c = rw c.in-First.is c.first_given.ensures.becomes

pub returns-in-First-clause-knows : goal.returns-in-First-clause-knows
returns-in-First-clause-knows c = rw c.in-First.is c.first_given.ensures.knows

pub returns-in-Second-clause-becomes : goal.returns-in-Second-clause-becomes
returns-in-Second-clause-becomes c = rw c.in-Second.is c.second_given.ensures.becomes

pub returns-in-Second-clause-knows : goal.returns-in-Second-clause-knows
returns-in-Second-clause-knows c = rw c.in-Second.is c.second_given.ensures.knows
