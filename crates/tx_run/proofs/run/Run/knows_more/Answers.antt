use Rattle.tx_run.proofs.LawLemmas.{more-run}
use Rattle.tx_run.proofs.run.Run.knows_more.Goals as goal

pub returns : goal.returns
returns c names more le knows = more-run names more c.args.self.now le (c.knows_more.ensures names more le knows.scene) knows
