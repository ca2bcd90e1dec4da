use Rattle.std.proofs.Common.{sym, ◌∙◌}
use Rattle.tx_amounts.specs.Scanning.{wish_of}
use Rattle.tx_frames.proofs.ScanLemmas.{wish-begun}
use Rattle.tx_frames.proofs.frame.scan_wish.Goals as goal

pub returns-in-Some : goal.returns-in-Some
returns-in-Some c = wish-begun c.args.scan.now.begun (wish_of c.args.scan.now) c.in-Some.token c.in-Some.sense (sym c.command.ensures.begun ∙ c.in-Some.is)
