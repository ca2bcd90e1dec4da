use Rattle.tx_run.proofs.LawLemmas.{asked-known}
use Rattle.tx_run.proofs.run.Run.knows_asked.Goals as goal

pub returns : goal.returns
returns c names operation knows asks = asked-known names c.args.self.now operation knows asks
