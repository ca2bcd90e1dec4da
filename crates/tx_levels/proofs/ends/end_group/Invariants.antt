use Rattle.std.proofs.Common.{◌≡◌, ℕ, length}
use Rattle.tx_eqtb.specs.Meanings.{Map}
use Rattle.tx_eqtb.specs.Steps.{KeepsBefore}
use Rattle.tx_save.specs.Saves.{outside, Fits}
use Rattle.tx_levels.proofs.ends.end_group.Given as goal

abbrev pub invariant-dropped : goal.invariant-dropped
invariant-dropped l =
    ((frozen : Map ℕ) → outside frozen l.over l.groups ≡ outside frozen l.initial.over l.initial.groups)
    × KeepsBefore l.initial.over l.over
    × Fits l.over l.groups
    × (l.groups.level ≡ l.initial.groups.level)

abbrev pub decreases-dropped : goal.decreases-dropped
decreases-dropped l = length l.groups.stack
