use Rattle.tx_format.proofs.PresetLemmas.{names_differ_if_ok}
use Rattle.tx_format.proofs.presets.primitive_names.Goals as goal

pub returns-clause-distinct : goal.returns-clause-distinct
returns-clause-distinct c = names_differ_if_ok c.names_of.result c.primitive_table-table.result.rows.now c.each_key_has_its_row.ensures c.names_of.ensures.names
