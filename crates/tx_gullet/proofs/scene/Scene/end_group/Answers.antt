use Rattle.tx_gullet.proofs.scene.Scene.end_group.Goals as goal

pub returns-clause-sound : goal.returns-clause-sound
returns-clause-sound c = record {
  equivalents = c.end_group.ensures.knows c.args.self.now.names c.requires.sound.equivalents;
  lists = c.requires.sound.lists;
}
