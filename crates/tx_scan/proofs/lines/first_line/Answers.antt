use Rattle.tx_scan.proofs.LineLemmas.{first-cut, first-whole}
use Rattle.tx_scan.proofs.lines.first_line.Goals as goal

pub returns-then-byte-eq10-clause-lines : goal.returns-then-byte-eq10-clause-lines
returns-then-byte-eq10-clause-lines c =
    first-cut c.args.bytes.now c.loop-len.len c.loop-len-test.true c.loop-len.invariant c.if-byte-eq10.true

pub returns-clause-lines : goal.returns-clause-lines
returns-clause-lines c = first-whole c.args.bytes.now c.loop-len.len c.requires c.loop-len-test.false c.loop-len.invariant
