use Rattle.tx_commands.proofs.named.named_given.Goals as goal

pub returns-in-Define-clause-becomes : goal.returns-in-Define-clause-becomes
returns-in-Define-clause-becomes c = rw c.in-Define.is c.define_given.ensures.becomes

pub returns-in-Define-clause-knows : goal.returns-in-Define-clause-knows
returns-in-Define-clause-knows c = rw c.in-Define.is c.define_given.ensures.knows

pub returns-in-Let-clause-becomes : goal.returns-in-Let-clause-becomes
returns-in-Let-clause-becomes c = rw c.in-Let.is c.let_given.ensures.becomes

pub returns-in-Let-clause-knows : goal.returns-in-Let-clause-knows
returns-in-Let-clause-knows c = rw c.in-Let.is c.let_given.ensures.knows

pub returns-in-FutureLet-clause-becomes : goal.returns-in-FutureLet-clause-becomes
returns-in-FutureLet-clause-becomes c = rw c.in-FutureLet.is c.future_let_given.ensures.becomes

pub returns-in-FutureLet-clause-knows : goal.returns-in-FutureLet-clause-knows
returns-in-FutureLet-clause-knows c = rw c.in-FutureLet.is c.future_let_given.ensures.knows

pub returns-in-Stand-clause-becomes : goal.returns-in-Stand-clause-becomes
returns-in-Stand-clause-becomes c = rw c.in-Stand.is c.stand_given.ensures.becomes

pub returns-in-Stand-clause-knows : goal.returns-in-Stand-clause-knows
returns-in-Stand-clause-knows c = rw c.in-Stand.is c.stand_given.ensures.knows
