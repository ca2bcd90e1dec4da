use Rattle.std.proofs.Common.{length}
use Rattle.tx_eqtb.specs.Steps.{KeepsBefore}
use Rattle.tx_levels.proofs.ends.undo_all.Given as goal

abbrev pub invariant-undone : goal.invariant-undone
invariant-undone l = KeepsBefore l.initial.over l.over

abbrev pub decreases-undone : goal.decreases-undone
decreases-undone l = length l.over.journal
