use Rattle.tx_node.specs.declared.BoxNode.{BoxNode}
use Rattle.tx_eqtb.specs.Meanings.{Map}
use Rattle.tx_save.specs.Saves.{Fits}
use Rattle.tx_environment.specs.Soundness.{IsSound, IsClosing}
use Rattle.tx_environment.specs.Steps.{IsOpen, entries_saved}
use Rattle.tx_environment.proofs.tests.end_group.Given as goal

abbrev pub invariant-loop-kind : goal.invariant-loop-kind
invariant-loop-kind l = record {
  is_open : IsOpen l.environment;
  fits : Fits l.environment.table l.environment.saves;
  closing : (frozen : Map BoxNode) → IsSound frozen l.fn.environment → IsClosing frozen l.environment;
}

abbrev pub decreases-loop-kind : goal.decreases-loop-kind
decreases-loop-kind l = entries_saved l.environment
