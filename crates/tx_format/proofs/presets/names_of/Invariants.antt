use Rattle.std.proofs.Common.{◌≡◌, ◌++◌, map, drop}
use Rattle.tx_prims.specs.Keys.{text_of}
use Rattle.tx_format.proofs.presets.names_of.Given as goal

abbrev pub invariant-loop-row : goal.invariant-loop-row
invariant-loop-row l = l.names.items ++ map (λ row. text_of row.key) (drop l.row-index l.rows) ≡ map (λ row. text_of row.key) l.rows
