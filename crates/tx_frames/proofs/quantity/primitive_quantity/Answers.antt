use Rattle.std.proofs.Common.{sym, subst}
use Rattle.tx_private.specs.Readings as private
use Rattle.tx_views.specs.declared.sense.Sense.TheVariants as sense
use Rattle.tx_frames.specs.Values.{command_in}
use Rattle.tx_frames.specs.Answers.{BecomesBegun}
use Rattle.tx_frames.proofs.quantity.primitive_quantity.Goals as goal

pub returns-in-Assignment-clause-becomes : goal.returns-in-Assignment-clause-becomes
returns-in-Assignment-clause-becomes c view w =
    subst (λ p. BecomesBegun view (private.QuantityFrom (command_in view c.args.token (sense.Primitive p))) w c.numbered.result) (sym c.in-Assignment.is) (c.numbered.ensures.becomes view w)

pub returns-in-Assignment-clause-knows : goal.returns-in-Assignment-clause-knows
returns-in-Assignment-clause-knows c known t = c.numbered.ensures.knows known t
