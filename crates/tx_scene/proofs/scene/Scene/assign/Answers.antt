use Rattle.tx_scene.proofs.HoldingLemmas.{assigned-counts}
use Rattle.tx_scene.proofs.scene.Scene.assign.Goals as goal

pub returns-clause-references : goal.returns-clause-references
returns-clause-references c = assigned-counts c.assign.result c.args.meaning c.args.self.now.environment c.assign.new.self c.assign.ensures.held
