use Rattle.std.proofs.Common.{◌≡◌, take}
use Rattle.tx_format.specs.Formats.{table_of}
use Rattle.tx_format.proofs.format.name_table.Given as goal

abbrev pub invariant-loop-text : goal.invariant-loop-text
invariant-loop-text l = l.table ≡ table_of (take l.text-index l.texts)
