use Rattle.std.proofs.Common.{refl}
use Rattle.tx_run.proofs.TextLemmas.{grown-same, sound-first}
use Rattle.tx_run.proofs.run.Run.no_memory.Goals as goal

-- the first categories stay those of the map before the region
pub returns-clause-keeps : goal.returns-clause-keeps
returns-clause-keeps c = record {
  environment = refl;
  sound = λ frozen sound. sound-first frozen c.args.self.now.doing c.args.self.now.scene sound;
  waits = λ waits. tt;
  steps = refl;
  moves = c.saturating_sub-self.ensures;
  names = grown-same c.args.self.now.scene.input.names;
}
