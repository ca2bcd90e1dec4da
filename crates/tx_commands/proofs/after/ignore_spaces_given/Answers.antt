use Rattle.tx_commands.proofs.after.ignore_spaces_given.Goals as goal

pub returns-in-Expanded-clause-becomes : goal.returns-in-Expanded-clause-becomes
returns-in-Expanded-clause-becomes c = rw c.in-Expanded.is c.ignore_spaces.ensures.becomes

pub returns-in-Expanded-clause-knows : goal.returns-in-Expanded-clause-knows
returns-in-Expanded-clause-knows c = rw c.in-Expanded.is c.ignore_spaces.ensures.knows
