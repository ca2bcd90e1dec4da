use Rattle.std.proofs.Common.{◌∷◌, arith, ap, ◌∙◌}
use Rattle.tx_proto.proofs.DecimalLemmas.{begins-zero, zero-digit}
use Rattle.tx_proto.proofs.HeaderLemmas.{no-budget}
use Rattle.tx_proto.proofs.header.before_budget.Goals as goal

pub returns-then-budget-eq0 : goal.returns-then-budget-eq0
returns-then-budget-eq0 c =
    no-budget c.args.byte (λ n z is e. begins-zero n z is.0 (omega (arith, is.1)) (e ∙ ap (λ b. b ∷ z) (zero-digit c.in-Some.budget c.args.byte c.if-budget-eq0.true c.in-Some.ensures.some.1)))

pub returns-in-None : goal.returns-in-None
returns-in-None c = no-budget c.args.byte (λ n z is e. c.in-None.ensures.none n z (omega (arith, is.1)) e)
