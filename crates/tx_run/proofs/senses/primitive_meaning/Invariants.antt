use Rattle.std.proofs.Common.{◌-◌}
use Rattle.tx_run.proofs.senses.primitive_meaning.Given as goal

abbrev pub decreases-places : goal.decreases-places
decreases-places l = 65536 - l.place
