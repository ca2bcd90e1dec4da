use Rattle.tx_scene.specs.Scenes.{base}
use Rattle.tx_scene.proofs.scene.Scene.drop_rest.Goals as goal

pub returns-clause-dropped : goal.returns-clause-dropped
returns-clause-dropped c g frozen depth is = c.drop_rest.ensures.world g.view g.formats (base g frozen depth c.args.self.now)
