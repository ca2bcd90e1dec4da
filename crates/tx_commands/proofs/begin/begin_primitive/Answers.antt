use Rattle.tx_commands.proofs.begin.begin_primitive.Goals as goal

pub returns-in-IntegerParameter-clause-becomes : goal.returns-in-IntegerParameter-clause-becomes
returns-in-IntegerParameter-clause-becomes c = rw c.in-IntegerParameter.is c.at_place.ensures.becomes

pub returns-in-IntegerParameter-clause-knows : goal.returns-in-IntegerParameter-clause-knows
returns-in-IntegerParameter-clause-knows c = λ known. c.at_place.ensures.knows known tt

pub returns-in-DimensionParameter-clause-becomes : goal.returns-in-DimensionParameter-clause-becomes
returns-in-DimensionParameter-clause-becomes c = rw c.in-DimensionParameter.is c.at_place-in-DimensionParameter.ensures.becomes

pub returns-in-DimensionParameter-clause-knows : goal.returns-in-DimensionParameter-clause-knows
returns-in-DimensionParameter-clause-knows c = λ known. c.at_place-in-DimensionParameter.ensures.knows known tt

pub returns-in-GlueParameter-clause-becomes : goal.returns-in-GlueParameter-clause-becomes
returns-in-GlueParameter-clause-becomes c = rw c.in-GlueParameter.is c.at_place-in-GlueParameter.ensures.becomes

pub returns-in-GlueParameter-clause-knows : goal.returns-in-GlueParameter-clause-knows
returns-in-GlueParameter-clause-knows c = λ known. c.at_place-in-GlueParameter.ensures.knows known tt

pub returns-in-ListParameter-clause-becomes : goal.returns-in-ListParameter-clause-becomes
returns-in-ListParameter-clause-becomes c = rw c.in-ListParameter.is c.at_place-in-ListParameter.ensures.becomes

pub returns-in-ListParameter-clause-knows : goal.returns-in-ListParameter-clause-knows
returns-in-ListParameter-clause-knows c = λ known. c.at_place-in-ListParameter.ensures.knows known tt

pub returns-in-Assignment-clause-becomes : goal.returns-in-Assignment-clause-becomes
returns-in-Assignment-clause-becomes c = rw c.in-Assignment.is c.begin_assignment.ensures.becomes

pub returns-in-Command-clause-becomes : goal.returns-in-Command-clause-becomes
returns-in-Command-clause-becomes c = rw c.in-Command.is c.begin_command.ensures.becomes
