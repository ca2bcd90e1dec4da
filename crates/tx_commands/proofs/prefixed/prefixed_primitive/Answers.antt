use Rattle.tx_commands.proofs.prefixed.prefixed_primitive.Goals as goal

pub returns-in-IntegerParameter-clause-becomes : goal.returns-in-IntegerParameter-clause-becomes
returns-in-IntegerParameter-clause-becomes c = rw c.in-IntegerParameter.is (rw c.in-IntegerParameter.is at c.prefixed_place.ensures.becomes)

pub returns-in-IntegerParameter-clause-knows : goal.returns-in-IntegerParameter-clause-knows
returns-in-IntegerParameter-clause-knows c = λ known. c.prefixed_place.ensures.knows known tt tt

pub returns-in-DimensionParameter-clause-becomes : goal.returns-in-DimensionParameter-clause-becomes
returns-in-DimensionParameter-clause-becomes c = rw c.in-DimensionParameter.is (rw c.in-DimensionParameter.is at c.prefixed_place-in-DimensionParameter.ensures.becomes)

pub returns-in-DimensionParameter-clause-knows : goal.returns-in-DimensionParameter-clause-knows
returns-in-DimensionParameter-clause-knows c = λ known. c.prefixed_place-in-DimensionParameter.ensures.knows known tt tt

pub returns-in-GlueParameter-clause-becomes : goal.returns-in-GlueParameter-clause-becomes
returns-in-GlueParameter-clause-becomes c = rw c.in-GlueParameter.is (rw c.in-GlueParameter.is at c.prefixed_place-in-GlueParameter.ensures.becomes)

pub returns-in-GlueParameter-clause-knows : goal.returns-in-GlueParameter-clause-knows
returns-in-GlueParameter-clause-knows c = λ known. c.prefixed_place-in-GlueParameter.ensures.knows known tt tt

pub returns-in-ListParameter-clause-becomes : goal.returns-in-ListParameter-clause-becomes
returns-in-ListParameter-clause-becomes c = rw c.in-ListParameter.is (rw c.in-ListParameter.is at c.prefixed_place-in-ListParameter.ensures.becomes)

pub returns-in-ListParameter-clause-knows : goal.returns-in-ListParameter-clause-knows
returns-in-ListParameter-clause-knows c = λ known. c.prefixed_place-in-ListParameter.ensures.knows known tt tt

pub returns-in-Assignment-clause-becomes : goal.returns-in-Assignment-clause-becomes
returns-in-Assignment-clause-becomes c = rw c.in-Assignment.is c.prefixed_assignment.ensures.becomes
