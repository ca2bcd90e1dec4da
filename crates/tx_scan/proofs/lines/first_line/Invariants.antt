-- no line ended so far
use Rattle.tx_scan.proofs.LineLemmas.{HasNoEnd}
use Rattle.tx_scan.proofs.lines.first_line.Given as goal

abbrev pub invariant-loop-len : goal.invariant-loop-len
invariant-loop-len l = HasNoEnd l.bytes l.len
