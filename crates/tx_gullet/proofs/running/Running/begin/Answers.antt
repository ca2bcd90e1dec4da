use Rattle.tx_gullet.proofs.running.Running.begin.Goals as goal

pub returns-clause-sound : goal.returns-clause-sound
returns-clause-sound c = record {
  scene = record { equivalents = c.requires.rest.knows; lists = c.in_ok-self.ensures.knows c.args.self.now.scene.names };
  frame = tt;
}
