use Rattle.tx_commands.proofs.begin.begin_given.Goals as goal

pub returns-in-Expanded-clause-becomes : goal.returns-in-Expanded-clause-becomes
returns-in-Expanded-clause-becomes c = rw c.in-Expanded.is c.begin.ensures.becomes

pub returns-in-Expanded-clause-knows : goal.returns-in-Expanded-clause-knows
returns-in-Expanded-clause-knows c = λ known k i. c.begin.ensures.knows known
