use Rattle.std.proofs.Common.{◌∙◌, arith, sym}
use Rattle.tx_macro.proofs.SettlingLemmas.{settles-at, settles-breaks}
use Rattle.tx_macro.proofs.argument.settled.Goals as goal

pub returns-in-Err : goal.returns-in-Err
returns-in-Err c = λ later. c.loop-place.invariant.says later
    ∙ settles-breaks c.args.rule c.args.delimiter.now c.args.taken.now c.loop-place.place.known c.loop-place.place.depth c.in-Err.misuse _ c.loop-place-test.true c.loop-place.invariant.short (sym c.if-not-may_end.ensures) c.in-Err.ensures.grown later

pub loop-place-preserved : goal.loop-place-preserved
loop-place-preserved c = record {
  says = λ later. c.loop-place.invariant.says later
      ∙ settles-at c.args.rule c.args.delimiter.now c.args.taken.now c.loop-place.place.known c.loop-place.place.depth c.in-Ok.depth _ c.loop-place-test.true c.loop-place.invariant.short (sym c.if-not-may_end.ensures) c.in-Ok.ensures.grown later;
  within = omega arith;
  shallow = omega (arith, c.in-Ok.ensures.bounded);
  short = omega arith;
}
