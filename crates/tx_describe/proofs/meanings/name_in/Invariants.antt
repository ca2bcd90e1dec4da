-- the rows so far have other primitives
use Rattle.std.proofs.Common.{◌≡◌, drop}
use Rattle.tx_private.specs.Described.{name_in}
use Rattle.tx_describe.proofs.meanings.name_in.Given as goal

abbrev pub invariant-loop-row : goal.invariant-loop-row
invariant-loop-row l = name_in l.primitive (drop l.row-index l.rows) ≡ name_in l.primitive l.rows
