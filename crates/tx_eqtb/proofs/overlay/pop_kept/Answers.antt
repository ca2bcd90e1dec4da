use Rattle.std.proofs.Common.{◌∙◌, arith, ◌≤◌, length}
use Rattle.tx_eqtb.proofs.HeldLemmas.{kept-frozen, kept-kept}
use Rattle.tx_eqtb.proofs.TableLemmas.{left-less}
use Rattle.tx_eqtb.proofs.overlay.pop_kept.Goals as goal

pub loop-before-preserved : goal.loop-before-preserved
loop-before-preserved g c =
    let fewer : length c.pop.new.map.entries ≤ length c.args.journal.now.entries = omega (arith, c.in-Some.ensures.fewer, c.loop-before.invariant.2) in (
      left-less c.args.journal.now.entries c.loop-before.journal.entries c.pop.new.map.entries c.in-Some.field-0-0 c.loop-before.invariant.0 c.in-Some.ensures.found,
      λ test. c.loop-before.invariant.1 test ∙ kept-frozen c.loop-before.journal.entries c.pop.new.map.entries c.in-Some.before c.in-Some.ensures.sums c.in-Frozen.is test,
      fewer,
    )

pub returns-in-Kept-clause-counts : goal.returns-in-Kept-clause-counts
returns-in-Kept-clause-counts g c test =
    c.loop-before.invariant.1 test ∙ kept-kept c.loop-before.journal.entries c.pop.new.map.entries c.in-Some.before c.in-Kept.m c.in-Some.ensures.sums c.in-Kept.is test
