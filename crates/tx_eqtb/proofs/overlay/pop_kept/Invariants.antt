use Rattle.std.proofs.Common.{◌≤◌, length}
use Rattle.tx_eqtb.specs.Tables.{kept, SameCounts}
use Rattle.tx_eqtb.specs.Steps.{IsLeftOf}
use Rattle.tx_eqtb.proofs.overlay.pop_kept.Given as goal

abbrev pub invariant-loop-before : goal.invariant-loop-before
invariant-loop-before g l = IsLeftOf l.initial.journal.entries l.journal.entries × SameCounts (kept l.initial.journal.entries) (kept l.journal.entries) × (length l.journal.entries ≤ length l.initial.journal.entries)

abbrev pub decreases-loop-before : goal.decreases-loop-before
decreases-loop-before g l = length l.journal.entries
