use Rattle.std.proofs.Common.{arith}
use Rattle.tx_proto.proofs.DecimalLemmas.{one-digit, begins-digit}
use Rattle.tx_proto.proofs.header.first_digit.Goals as goal

pub returns-then-is_ascii_digit-clause-some : goal.returns-then-is_ascii_digit-clause-some
returns-then-is_ascii_digit-clause-some c = one-digit c.args.byte c.from.result c.if-is_ascii_digit.ensures.cases c.from.ensures

pub returns-else-is_ascii_digit-clause-none : goal.returns-else-is_ascii_digit-clause-none
returns-else-is_ascii_digit-clause-none c n rest small e =
    let digit = begins-digit n c.args.byte rest (omega arith) e in
    let other = c.if-is_ascii_digit.ensures.cases in
    grind (arith, digit, other)
