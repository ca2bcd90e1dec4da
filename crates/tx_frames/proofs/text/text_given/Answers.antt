use Rattle.std.proofs.Common.{sym, subst}
use Rattle.tx_frames.specs.declared.frame.Frame.TheVariants as frame
use Rattle.tx_frames.specs.Answers.{BecomesGiven}
use Rattle.tx_frames.specs.Knowledge.{KnowsItem}
use Rattle.tx_frames.proofs.text.text_given.Goals as goal

pub returns-in-Token-clause-becomes : goal.returns-in-Token-clause-becomes
returns-in-Token-clause-becomes c view w =
    subst (λ i. BecomesGiven view (frame.Text c.args.text) i w c.token_given.result) (sym c.in-Token.is) (c.token_given.ensures.becomes view w)

pub returns-in-Given-clause-becomes : goal.returns-in-Given-clause-becomes
returns-in-Given-clause-becomes c view w =
    subst (λ i. BecomesGiven view (frame.Text c.args.text) i w c.value_given.result) (sym c.in-Given.is) (c.value_given.ensures.becomes view w)

pub returns-in-Token-clause-knows : goal.returns-in-Token-clause-knows
returns-in-Token-clause-knows c known k i = c.token_given.ensures.knows known k (subst (λ x. KnowsItem known x) c.in-Token.is i).0

pub returns-in-Given-clause-knows : goal.returns-in-Given-clause-knows
returns-in-Given-clause-knows c known k i = c.value_given.ensures.knows known k (subst (λ x. KnowsItem known x) c.in-Given.is i)
