use Rattle.std.proofs.Common.{[], sym, subst}
use Rattle.tx_private.specs.Expansions.{expansion}
use Rattle.tx_views.specs.Meanings.{sense_in}
use Rattle.tx_frames.specs.Values.{command_in}
use Rattle.tx_frames.specs.Answers.{Becomes}
use Rattle.tx_frames.specs.Opened.{expanding}
use Rattle.tx_frames.proofs.expansion.expand.Goals as goal

pub returns-in-Primitive-clause-becomes : goal.returns-in-Primitive-clause-becomes
returns-in-Primitive-clause-becomes c view w =
    subst (λ s. Becomes view (expanding view c.args.text c.args.token s) (expansion c.args.text (command_in view c.args.token s) (sense_in view s) [] w) w c.expand_any.result) (sym c.in-Primitive.is) (c.expand_any.ensures.becomes view w)

pub returns-in-Primitive-clause-knows : goal.returns-in-Primitive-clause-knows
returns-in-Primitive-clause-knows c known t s = c.expand_any.ensures.knows known t
