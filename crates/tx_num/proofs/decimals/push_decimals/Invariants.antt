use Rattle.std.proofs.Common.{◌≡◌, ◌+◌, ◌-◌, ◌<◌, ◌≤◌, ◌++◌, map}
use Rattle.tx_num.specs.Decimals.{decimals_below, decimals}
use Rattle.tx_num.proofs.decimals.push_decimals.Given as goal

abbrev pub invariant-digits : goal.invariant-digits
invariant-digits l = record {
  small : l.s ≤ 655355;
  tolerance : l.delta ≤ 655355;
  last : 65536 < l.delta → l.delta < l.s;
  text : l.text.items ++ map (λ digit. 48 + digit) (decimals_below (5 - l.counter) l.s l.delta)
      ≡ l.fn.text.items ++ map (λ digit. 48 + digit) (decimals l.fraction);
}
