use Rattle.std.proofs.Common.{arith, ◌∙◌}
use Rattle.tx_scan.proofs.LineLemmas.{trim-step, trim-stop}
use Rattle.tx_scan.proofs.lines.trimmed_len.Goals as goal

pub loop-len-preserved : goal.loop-len-preserved
loop-len-preserved c = (
  omega arith,
  trim-step c.args.line.now c.loop-len.len c.loop-len-test.true c.loop-len.invariant.0 c.if-line-len-eq32.true ∙ c.loop-len.invariant.1,
)

pub returns-else-line-len-eq32-clause-text : goal.returns-else-line-len-eq32-clause-text
returns-else-line-len-eq32-clause-text c =
    trim-stop c.args.line.now c.loop-len.len c.loop-len-test.true c.loop-len.invariant.0 c.if-line-len-eq32.false ∙ c.loop-len.invariant.1
