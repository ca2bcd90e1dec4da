use Rattle.tx_scene.proofs.GroupLemmas.{closes-is}
use Rattle.tx_scene.proofs.scene.Scene.close.Goals as goal

pub returns-clause-closes : goal.returns-clause-closes
returns-clause-closes c = closes-is c.close.result c.args.self.now c.close.new.self c.requires.open c.close.ensures.closes
