use Rattle.tx_scene.specs.Scenes.{base}
use Rattle.tx_scene.proofs.scene.Scene.is_overfull.Goals as goal

pub returns : goal.returns
returns c g frozen depth = c.is_overfull.ensures g.view g.formats (base g frozen depth c.args.self.now)
