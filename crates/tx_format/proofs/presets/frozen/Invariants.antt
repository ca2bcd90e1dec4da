use Rattle.std.proofs.Common.{◌≡◌, ◌++◌}
use Rattle.tx_format.proofs.presets.frozen.Given as goal

abbrev pub invariant-loop-entry : goal.invariant-loop-entry
invariant-loop-entry l = l.entries.items ++ l.entry-iterator ≡ l.initial.entry-iterator
