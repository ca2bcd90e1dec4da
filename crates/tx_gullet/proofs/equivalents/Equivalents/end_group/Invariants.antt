-- the levels around, what is known of names and what was before stay
use Rattle.std.proofs.Common.{◌≡◌, ◌≤◌, reverse, length}
use Rattle.tx_names.specs.Names.{Names, Naming}
use Rattle.tx_gullet.specs.Levels.{below, HasCells, KeepsBefore, KnowsEquivalents}
use Rattle.tx_gullet.proofs.equivalents.Equivalents.end_group.Given as goal

abbrev pub invariant-saves : goal.invariant-saves
invariant-saves l =
    ((naming : Naming) → below naming l.self.cats l.self.names.entries (reverse l.self.saves.items) ≡ below naming l.initial.self.cats l.initial.self.names.entries (reverse l.initial.self.saves.items))
    × ((names : Names) → KnowsEquivalents names l.initial.self → KnowsEquivalents names l.self)
    × KeepsBefore l.initial.self l.self
    × HasCells l.self
    × (length l.self.saves.items ≤ length l.initial.self.saves.items)

abbrev pub decreases-saves : goal.decreases-saves
decreases-saves l = length l.self.saves.items
