use Rattle.std.proofs.Common.{length}
use Rattle.tx_eqtb.specs.Steps.{KeepsNow}
use Rattle.tx_levels.proofs.ends.keep_all.Given as goal

abbrev pub invariant-kept : goal.invariant-kept
invariant-kept l = KeepsNow l.initial.over l.over

abbrev pub decreases-kept : goal.decreases-kept
decreases-kept l = length l.over.journal
