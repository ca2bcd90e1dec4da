use Rattle.tx_commands.proofs.begin.begin.Goals as goal

pub returns-in-Register-clause-becomes : goal.returns-in-Register-clause-becomes
returns-in-Register-clause-becomes c = rw c.in-Register.is c.at_place.ensures.becomes

pub returns-in-Register-clause-knows : goal.returns-in-Register-clause-knows
returns-in-Register-clause-knows c = λ known. c.at_place.ensures.knows known tt

pub returns-in-Primitive-clause-becomes : goal.returns-in-Primitive-clause-becomes
returns-in-Primitive-clause-becomes c = rw c.in-Primitive.is c.begin_primitive.ensures.becomes

pub returns-in-Char-clause-becomes : goal.returns-in-Char-clause-becomes
returns-in-Char-clause-becomes c = rw c.in-Char.is c.character.ensures.becomes
