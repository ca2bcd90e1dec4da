-- the groups counted so far and those that follow
use Rattle.std.proofs.Common.{◌≡◌, ◌≤◌, ◌+◌, drop}
use Rattle.tx_gullet.specs.Levels.{marks}
use Rattle.tx_gullet.proofs.equivalents.Equivalents.open_groups.Given as goal

abbrev pub invariant-loop-save : goal.invariant-loop-save
invariant-loop-save l = (l.groups + marks (drop l.save-index l.save-items) ≡ marks l.self.saves.items) × (l.groups ≤ l.save-index)
