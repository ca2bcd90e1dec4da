use Rattle.tx_commands.proofs.prefixed.prefixed_given.Goals as goal

pub returns-in-Expanded-clause-becomes : goal.returns-in-Expanded-clause-becomes
returns-in-Expanded-clause-becomes c = rw c.in-Expanded.is c.behind_prefixes.ensures.becomes

pub returns-in-Expanded-clause-knows : goal.returns-in-Expanded-clause-knows
returns-in-Expanded-clause-knows c = rw c.in-Expanded.is (λ known k i. c.behind_prefixes.ensures.knows known i.1)
