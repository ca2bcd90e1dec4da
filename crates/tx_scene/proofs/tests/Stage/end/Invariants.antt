use Rattle.tx_eqtb.specs.Meanings.{meanings}
use Rattle.tx_environment.specs.Soundness.{IsClosing}
use Rattle.tx_scene.proofs.tests.Stage.end.Given as goal

abbrev pub invariant-loop : goal.invariant-loop
invariant-loop l = IsClosing (meanings l.frozen) l.scene.environment
