-- what is behind is blank
use Rattle.std.proofs.Common.{◌≡◌, ◌≤◌, length, take}
use Rattle.tx_model.specs.Lines.{trimmed}
use Rattle.tx_scan.proofs.lines.trimmed_len.Given as goal

abbrev pub invariant-loop-len : goal.invariant-loop-len
invariant-loop-len l = (l.len ≤ length l.line) × (trimmed (take l.len l.line) ≡ trimmed l.line)

abbrev pub decreases-loop-len : goal.decreases-loop-len
decreases-loop-len l = l.len
