use Rattle.tx_commands.proofs.prefixed.prefixed.Goals as goal

pub returns-in-Register-clause-becomes : goal.returns-in-Register-clause-becomes
returns-in-Register-clause-becomes c = rw c.in-Register.is c.prefixed_place.ensures.becomes

pub returns-in-Register-clause-knows : goal.returns-in-Register-clause-knows
returns-in-Register-clause-knows c = λ known s. c.prefixed_place.ensures.knows known tt tt

pub returns-in-Primitive-clause-becomes : goal.returns-in-Primitive-clause-becomes
returns-in-Primitive-clause-becomes c = rw c.in-Primitive.is c.prefixed_primitive.ensures.becomes

pub returns-in-Primitive-clause-knows : goal.returns-in-Primitive-clause-knows
returns-in-Primitive-clause-knows c = λ known s. c.prefixed_primitive.ensures.knows known
