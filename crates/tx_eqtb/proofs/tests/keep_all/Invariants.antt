use Rattle.std.proofs.Common.{length}
use Rattle.tx_eqtb.proofs.tests.keep_all.Given as goal

abbrev pub decreases-loop : goal.decreases-loop
decreases-loop l = length l.overlay.journal
