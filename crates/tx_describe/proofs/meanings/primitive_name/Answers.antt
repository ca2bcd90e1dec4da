use Rattle.std.proofs.Common.{◌∙◌, ap}
use Rattle.tx_private.specs.Described.{name_in, name_of_primitive}
use Rattle.tx_describe.proofs.meanings.primitive_name.Goals as goal

pub returns : goal.returns
unfolding name_of_primitive
returns c = c.name_in.ensures ∙ ap (name_in c.args.primitive) c.primitive_table.ensures.rows
