use Rattle.std.proofs.Common.{arith}
use Rattle.tx_proto.proofs.DecimalLemmas.{begins-more, decimal-more}
use Rattle.tx_proto.proofs.header.with_digit.Goals as goal
use Rattle.tx_proto.proofs.header.with_digit.Goals.{then-number-eq0-via-then-number-eq0, then-number-eq0-via-else-number-eq0+then-not-is_ascii_digit}

pub returns-then-number-eq0-clause-none : goal.returns-then-number-eq0-clause-none
returns-then-number-eq0-clause-none c n rest few e =
    let more = begins-more c.args.number n c.args.byte rest (omega arith) (omega arith) e in
    elim c.then-number-eq0.branch [
      | then-number-eq0-via-then-number-eq0 w ↦ omega (arith, more.1, w.if-number-eq0.true)
      | then-number-eq0-via-else-number-eq0+then-not-is_ascii_digit w ↦ let digit = more.0 in let other = w.if-not-is_ascii_digit.ensures.cases in grind (arith, digit, other)
    ]

pub returns-then-longer-most-clause-some : goal.returns-then-longer-most-clause-some
returns-then-longer-most-clause-some c =
    let digit = c.if-not-is_ascii_digit.ensures.cases in
    (omega arith, c.if-longer-most.true, rw c.from.ensures (decimal-more c.args.number c.args.byte (omega arith) digit (omega (arith, digit.1))))

pub returns-else-longer-most-clause-none : goal.returns-else-longer-most-clause-none
returns-else-longer-most-clause-none c n rest few e =
    let more = begins-more c.args.number n c.args.byte rest (omega arith) (omega arith) e in
    omega (arith, more.2)
