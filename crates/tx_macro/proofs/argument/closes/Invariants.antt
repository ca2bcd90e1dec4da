use Rattle.std.proofs.Common.{◌≡◌, ◌≤◌, drop}
use Rattle.tx_macro.specs.Outcome.{closes as closes_of}
use Rattle.tx_macro.proofs.argument.closes.Given as goal

abbrev pub invariant-loop-i : goal.invariant-loop-i
invariant-loop-i l = (l.depth ≤ l.i) × (closes_of l.depth (drop l.i l.tokens) ≡ closes_of 0 l.tokens)
