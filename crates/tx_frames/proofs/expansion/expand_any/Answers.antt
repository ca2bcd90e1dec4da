use Rattle.std.proofs.Common.{[], sym, subst}
use Rattle.tx_private.specs.Expansions.{expansion}
use Rattle.tx_views.specs.declared.sense.Sense.TheVariants as sense
use Rattle.tx_views.specs.Meanings.{sense_in}
use Rattle.tx_frames.specs.Values.{command_in}
use Rattle.tx_frames.specs.Answers.{Becomes}
use Rattle.tx_frames.specs.Opened.{expanding}
use Rattle.tx_frames.proofs.expansion.expand_any.Goals as goal

pub returns-in-Expandable-clause-becomes : goal.returns-in-Expandable-clause-becomes
returns-in-Expandable-clause-becomes c view w =
    subst (λ p. Becomes view (expanding view c.args.text c.args.token (sense.Primitive p)) (expansion c.args.text (command_in view c.args.token (sense.Primitive p)) (sense_in view (sense.Primitive p)) [] w) w c.expand_primitive.result) (sym c.in-Expandable.is) (c.expand_primitive.ensures.becomes view w)

pub returns-in-Expandable-clause-knows : goal.returns-in-Expandable-clause-knows
returns-in-Expandable-clause-knows c known t = c.expand_primitive.ensures.knows known
