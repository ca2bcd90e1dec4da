use Rattle.tx_commands.proofs.named.define_given.Goals as goal

pub returns-in-Brace-clause-becomes : goal.returns-in-Brace-clause-becomes
returns-in-Brace-clause-becomes c = rw c.in-Brace.is c.brace_given.ensures.becomes

pub returns-in-Brace-clause-knows : goal.returns-in-Brace-clause-knows
returns-in-Brace-clause-knows c = rw c.in-Brace.is c.brace_given.ensures.knows

pub returns-in-Body-clause-becomes : goal.returns-in-Body-clause-becomes
returns-in-Body-clause-becomes c = rw c.in-Body.is c.body_given.ensures.becomes

pub returns-in-Body-clause-knows : goal.returns-in-Body-clause-knows
returns-in-Body-clause-knows c = rw c.in-Body.is c.body_given.ensures.knows
