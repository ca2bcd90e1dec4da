-- what was before stays, and can be given back
use Rattle.std.proofs.Common.{length}
use Rattle.tx_gullet.specs.Levels.{HasCells, KeepsBefore}
use Rattle.tx_gullet.proofs.equivalents.Equivalents.undo.Given as goal

abbrev pub invariant-saves : goal.invariant-saves
invariant-saves l = KeepsBefore l.initial.self l.self × HasCells l.self

abbrev pub decreases-saves : goal.decreases-saves
decreases-saves l = length l.self.saves.items
