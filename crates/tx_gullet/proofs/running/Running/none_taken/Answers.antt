use Rattle.tx_gullet.specs.Scenes.{world_of}
use Rattle.tx_gullet.specs.Runs.{outer}
use Rattle.tx_gullet.proofs.RunLemmas.{wrong-at-end}
use Rattle.tx_gullet.proofs.running.Running.none_taken.Goals as goal

pub returns-in-Wrong-clause-took : goal.returns-in-Wrong-clause-took
returns-in-Wrong-clause-took c naming apart agrees r e w none =
    wrong-at-end naming c.args.self.now.frame (outer naming c.args.self.now) w (world_of naming c.args.self.now.scene) c.in-Wrong.error r none (c.in-Wrong.ensures naming) e
