use Rattle.std.proofs.Common.{length}
use Rattle.tx_levels.proofs.ends.abandon_all.Given as goal

abbrev pub decreases-given_up : goal.decreases-given_up
decreases-given_up l = length l.groups.stack
