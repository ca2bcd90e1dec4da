use Rattle.std.proofs.Common.{length}
use Rattle.tx_scan.proofs.plain.+fronted.Given as goal

abbrev pub decreases-fronted : goal.decreases-fronted
decreases-fronted l = length l.line.now
