use Rattle.std.proofs.Common.{◌≡◌, length}
use Rattle.tx_node.specs.declared.BoxNode.{BoxNode}
use Rattle.tx_eqtb.specs.Meanings.{Map}
use Rattle.tx_environment.specs.Soundness.{IsPresent}
use Rattle.tx_environment.proofs.tests.keep_all.Given as goal

abbrev pub invariant-loop : goal.invariant-loop
invariant-loop l = record {
  saves : l.environment.saves ≡ l.fn.environment.saves;
  present : (frozen : Map BoxNode) → IsPresent frozen l.fn.environment → IsPresent frozen l.environment;
}

abbrev pub decreases-loop : goal.decreases-loop
decreases-loop l = length l.environment.table.journal
