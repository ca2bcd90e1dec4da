use Rattle.tx_commands.proofs.looks.is_skipped.Goals as goal

pub returns-in-Primitive : goal.returns-in-Primitive
returns-in-Primitive c = rw c.in-Primitive.is c.is_relax.ensures
