use Rattle.std.proofs.Common.{length}
use Rattle.tx_scan.proofs.plain.+plain.Given as goal

abbrev pub decreases-plain : goal.decreases-plain
decreases-plain l = length l.line.now
