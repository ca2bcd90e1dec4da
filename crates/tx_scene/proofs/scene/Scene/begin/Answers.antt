use Rattle.tx_scene.proofs.HoldingLemmas.{begun-is}
use Rattle.tx_scene.proofs.scene.Scene.begin.Goals as goal

pub returns-clause-begun : goal.returns-clause-begun
returns-clause-begun c g frozen =
    begun-is g frozen c.args.self.now c.args.text c.args.budget c.begin.new.self c.begin_region.new.self c.new.result c.begin.ensures.becomes c.begin_region.ensures.others c.new.ensures c.requires.outermost
