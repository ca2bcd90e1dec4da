use Rattle.tx_commands.proofs.arithmetic.target_given.Goals as goal

pub returns-in-Expanded-clause-becomes : goal.returns-in-Expanded-clause-becomes
returns-in-Expanded-clause-becomes c = rw c.in-Expanded.is c.in_target.ensures.becomes

pub returns-in-Expanded-clause-knows : goal.returns-in-Expanded-clause-knows
returns-in-Expanded-clause-knows c = rw c.in-Expanded.is (λ known k i. c.in_target.ensures.knows known i.1)
