use Rattle.std.proofs.Common.{sym, subst}
use Rattle.tx_private.specs.Readings as private
use Rattle.tx_frames.specs.Values.{command_in}
use Rattle.tx_frames.specs.Answers.{BecomesBegun}
use Rattle.tx_frames.proofs.quantity.quantity.Goals as goal

pub returns-in-Primitive-clause-becomes : goal.returns-in-Primitive-clause-becomes
returns-in-Primitive-clause-becomes c view w =
    subst (λ s. BecomesBegun view (private.QuantityFrom (command_in view c.args.token s)) w c.primitive_quantity.result) (sym c.in-Primitive.is) (c.primitive_quantity.ensures.becomes view w)

pub returns-in-Primitive-clause-knows : goal.returns-in-Primitive-clause-knows
returns-in-Primitive-clause-knows c known t = c.primitive_quantity.ensures.knows known t
