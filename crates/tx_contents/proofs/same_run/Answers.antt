use Rattle.tx_contents.proofs.RunLemmas.{run-same}
use Rattle.tx_contents.proofs.same_run.Goals as goal

pub returns : goal.returns
returns c g h names frozen run r none knows alike means = run-same g h names frozen run r none knows alike means
