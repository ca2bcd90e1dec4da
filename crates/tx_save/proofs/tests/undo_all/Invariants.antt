use Rattle.std.proofs.Common.{length}
use Rattle.tx_save.proofs.tests.undo_all.Given as goal

abbrev pub decreases-loop : goal.decreases-loop
decreases-loop l = length l.over.journal
