use Rattle.std.proofs.Common.{length}
use Rattle.tx_scan.proofs.plain.+letters.Given as goal

abbrev pub decreases-letters : goal.decreases-letters
decreases-letters l = length l.line.now
