use Rattle.std.proofs.Common.{[], ◌∷◌, ap}
use Rattle.tx_model.specs.Pending.{Text}
use Rattle.tx_model.specs.World.{with_pending}
use Rattle.tx_gullet.specs.Scenes.{world_of}
use Rattle.tx_gullet.proofs.scene.Scene.open_list.Goals as goal

pub returns-clause-in_front : goal.returns-clause-in_front
returns-clause-in_front c naming =
    ap (λ members. with_pending members (world_of naming c.args.self.now)) (c.in_ok-open_list.ensures.pieces naming (Text c.args.self.now.scanner ∷ []))

pub returns-clause-sound : goal.returns-clause-sound
returns-clause-sound c = record {
  equivalents = c.requires.sound.equivalents;
  lists = c.in_ok-open_list.ensures.knows c.args.self.now.names c.requires.sound.lists c.requires.known;
}
