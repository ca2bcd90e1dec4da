-- the outermost level stays
use Rattle.std.proofs.Common.{◌≡◌, length}
use Rattle.tx_model.specs.Environment.{Map}
use Rattle.tx_model.specs.Region.{outermost}
use Rattle.tx_names.specs.Names.{Names, Naming, KeepsApart}
use Rattle.tx_gullet.specs.Levels.{levels, HasCells, KnowsEquivalents}
use Rattle.tx_gullet.proofs.equivalents.Equivalents.keep.Given as goal

abbrev pub invariant-groups : goal.invariant-groups
invariant-groups l =
    ((naming : Naming) → KeepsApart naming → (map : Map) → outermost map (levels naming l.self) ≡ outermost map (levels naming l.initial.self))
    × ((names : Names) → KnowsEquivalents names l.initial.self → KnowsEquivalents names l.self)
    × HasCells l.self

abbrev pub decreases-groups : goal.decreases-groups
decreases-groups l = length l.self.saves.items
