use Rattle.std.proofs.Common.{length}
use Rattle.tx_save.proofs.tests.abandon_all.Given as goal

abbrev pub decreases-loop : goal.decreases-loop
decreases-loop l = length l.groups.stack
