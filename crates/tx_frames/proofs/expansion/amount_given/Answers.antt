use Rattle.std.proofs.Common.{◌∷◌, [], sym, subst}
use Rattle.tx_frames.specs.Values.{command_in, item_in}
use Rattle.tx_views.specs.Meanings.{sense_in}
use Rattle.tx_frames.specs.Answers.{Becomes}
use Rattle.tx_frames.specs.ListPlaces.{the_quantity}
use Rattle.tx_frames.proofs.expansion.amount_given.Goals as goal

pub returns-in-Given-clause-becomes : goal.returns-in-Given-clause-becomes
returns-in-Given-clause-becomes c view o w =
    subst (λ i. Becomes view o (the_quantity c.args.text (command_in view c.args.token c.args.sense) (sense_in view c.args.sense) (item_in view i ∷ []) w) w c.amount_value_given.result) (sym c.in-Given.is) (c.amount_value_given.ensures.becomes view o w)

pub returns-in-Given-clause-knows : goal.returns-in-Given-clause-knows
returns-in-Given-clause-knows c known = c.amount_value_given.ensures.knows known
