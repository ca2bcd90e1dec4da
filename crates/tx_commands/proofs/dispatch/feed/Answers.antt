use Rattle.tx_commands.proofs.dispatch.feed.Goals as goal

pub returns-in-Start-clause-becomes : goal.returns-in-Start-clause-becomes
returns-in-Start-clause-becomes c = rw c.in-Start.is c.begin_given.ensures.becomes

pub returns-in-Start-clause-knows : goal.returns-in-Start-clause-knows
returns-in-Start-clause-knows c = rw c.in-Start.is c.begin_given.ensures.knows

pub returns-in-Prefixed-clause-becomes : goal.returns-in-Prefixed-clause-becomes
returns-in-Prefixed-clause-becomes c = rw c.in-Prefixed.is c.prefixed_given.ensures.becomes

pub returns-in-Prefixed-clause-knows : goal.returns-in-Prefixed-clause-knows
returns-in-Prefixed-clause-knows c = rw c.in-Prefixed.is c.prefixed_given.ensures.knows

pub returns-in-Assign-clause-becomes : goal.returns-in-Assign-clause-becomes
returns-in-Assign-clause-becomes c = rw c.in-Assign.is c.assign_given.ensures.becomes

pub returns-in-Assign-clause-knows : goal.returns-in-Assign-clause-knows
returns-in-Assign-clause-knows c = rw c.in-Assign.is c.assign_given.ensures.knows

pub returns-in-Name-clause-becomes : goal.returns-in-Name-clause-becomes
returns-in-Name-clause-becomes c = rw c.in-Name.is c.name_given.ensures.becomes

pub returns-in-Name-clause-knows : goal.returns-in-Name-clause-knows
returns-in-Name-clause-knows c = rw c.in-Name.is c.name_given.ensures.knows

pub returns-in-Named-clause-becomes : goal.returns-in-Named-clause-becomes
returns-in-Named-clause-becomes c = rw c.in-Named.is c.named_given.ensures.becomes

pub returns-in-Named-clause-knows : goal.returns-in-Named-clause-knows
returns-in-Named-clause-knows c = rw c.in-Named.is c.named_given.ensures.knows

pub returns-in-Arithmetic-clause-becomes : goal.returns-in-Arithmetic-clause-becomes
returns-in-Arithmetic-clause-becomes c = rw c.in-Arithmetic.is c.arithmetic_given.ensures.becomes

pub returns-in-Arithmetic-clause-knows : goal.returns-in-Arithmetic-clause-knows
returns-in-Arithmetic-clause-knows c = rw c.in-Arithmetic.is c.arithmetic_given.ensures.knows

pub returns-in-After-clause-becomes : goal.returns-in-After-clause-becomes
returns-in-After-clause-becomes c = rw c.in-After.is c.after_given.ensures.becomes

pub returns-in-After-clause-knows : goal.returns-in-After-clause-knows
returns-in-After-clause-knows c = rw c.in-After.is c.after_given.ensures.knows

pub returns-in-Message-clause-becomes : goal.returns-in-Message-clause-becomes
returns-in-Message-clause-becomes c = rw c.in-Message.is c.message_given.ensures.becomes

pub returns-in-Message-clause-knows : goal.returns-in-Message-clause-knows
returns-in-Message-clause-knows c = rw c.in-Message.is c.message_given.ensures.knows

pub returns-in-ChangeCase-clause-becomes : goal.returns-in-ChangeCase-clause-becomes
returns-in-ChangeCase-clause-becomes c = rw c.in-ChangeCase.is c.letters_given.ensures.becomes

pub returns-in-ChangeCase-clause-knows : goal.returns-in-ChangeCase-clause-knows
returns-in-ChangeCase-clause-knows c = rw c.in-ChangeCase.is c.letters_given.ensures.knows

pub returns-in-IgnoreSpaces-clause-becomes : goal.returns-in-IgnoreSpaces-clause-becomes
returns-in-IgnoreSpaces-clause-becomes c = rw c.in-IgnoreSpaces.is c.ignore_spaces_given.ensures.becomes

pub returns-in-IgnoreSpaces-clause-knows : goal.returns-in-IgnoreSpaces-clause-knows
returns-in-IgnoreSpaces-clause-knows c = rw c.in-IgnoreSpaces.is c.ignore_spaces_given.ensures.knows
