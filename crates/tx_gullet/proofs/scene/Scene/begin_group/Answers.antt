use Rattle.std.proofs.Common.{ap}
use Rattle.tx_model.specs.World.{with_environment}
use Rattle.tx_gullet.specs.Scenes.{world_of}
use Rattle.tx_gullet.proofs.scene.Scene.begin_group.Goals as goal

pub returns-clause-begun : goal.returns-clause-begun
returns-clause-begun c naming = ap (λ maps. with_environment maps (world_of naming c.args.self.now)) (c.in_ok-begin_group.ensures.levels naming)

pub returns-clause-sound : goal.returns-clause-sound
returns-clause-sound c = record {
  equivalents = c.in_ok-begin_group.ensures.knows c.args.self.now.names c.requires.sound.equivalents;
  lists = c.requires.sound.lists;
}
