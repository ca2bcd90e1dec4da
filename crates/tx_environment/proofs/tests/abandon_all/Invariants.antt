use Rattle.std.proofs.Common.{◌≡◌}
use Rattle.tx_node.specs.declared.BoxNode.{BoxNode}
use Rattle.tx_eqtb.specs.Meanings.{Map}
use Rattle.tx_environment.specs.Soundness.{IsFirst}
use Rattle.tx_environment.specs.Steps.{entries_saved}
use Rattle.tx_environment.proofs.tests.abandon_all.Given as goal

abbrev pub invariant-loop : goal.invariant-loop
invariant-loop l = record {
  table : l.environment.table ≡ l.fn.environment.table;
  first : (frozen : Map BoxNode) → IsFirst frozen l.fn.environment → IsFirst frozen l.environment;
}

abbrev pub decreases-loop : goal.decreases-loop
decreases-loop l = entries_saved l.environment
