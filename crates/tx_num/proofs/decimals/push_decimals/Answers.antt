use Rattle.std.proofs.Common.{arith}
use Rattle.tx_num.proofs.TextLemmas.{text_full, text_last, text_next}
use Rattle.tx_num.proofs.decimals.push_decimals.Goals as goal

pub digits-preserved : goal.digits-preserved
digits-preserved c = record {
  small = omega arith;
  tolerance = omega arith;
  last = λ _. omega arith;
  text = text_next _ _ _ _ _ _ _ c.digits-test.true c.to_last_digit-top.ensures.value c.if-s-delta.false c.digits.invariant.text c.in_ok-push.ensures.items;
}

pub returns-after-digits : goal.returns-after-digits
returns-after-digits c = record { ok = text_full _ _ c.digits.counter c.digits.s c.digits.delta c.digits-test.false c.digits.invariant.text }

pub returns-then-s-delta : goal.returns-then-s-delta
returns-then-s-delta c = record {
  ok = text_last _ _ _ _ _ _ _ c.digits-test.true c.to_last_digit-top.ensures.value c.if-s-delta.true c.digits.invariant.text c.in_ok-push.ensures.items;
}
