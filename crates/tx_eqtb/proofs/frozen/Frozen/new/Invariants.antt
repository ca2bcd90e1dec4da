use Rattle.std.proofs.Common.{◌≡◌, ◌≤◌, ◌++◌, length}
use Rattle.indexmap.specs.IndexMap.{spare}
use Rattle.tx_eqtb.proofs.frozen.Frozen.new.Given as goal

abbrev pub invariant-loop-at : goal.invariant-loop-at
invariant-loop-at g l = (l.fn.entries.0.items ≡ l.map.entries ++ l.at-iterator.rest.items) × (length l.at-iterator.rest.items ≤ spare l.map)
