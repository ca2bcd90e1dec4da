use Rattle.std.proofs.Common.{sym, subst}
use Rattle.tx_frames.specs.declared.frame.Frame.TheVariants as frame
use Rattle.tx_frames.specs.Answers.{BecomesGiven}
use Rattle.tx_frames.proofs.list.list_given.Goals as goal

pub returns-in-Start-clause-becomes : goal.returns-in-Start-clause-becomes
returns-in-Start-clause-becomes c view w =
    subst (λ s. BecomesGiven view (frame.List s) c.args.item w c.first_given.result) (sym c.in-Start.is) (c.first_given.ensures.becomes view w)

pub returns-in-Register-clause-becomes : goal.returns-in-Register-clause-becomes
returns-in-Register-clause-becomes c view w =
    subst (λ s. BecomesGiven view (frame.List s) c.args.item w c.register_given.result) (sym c.in-Register.is) (c.register_given.ensures.becomes view w)

pub returns-in-Braced-clause-becomes : goal.returns-in-Braced-clause-becomes
returns-in-Braced-clause-becomes c view w =
    subst (λ s. BecomesGiven view (frame.List s) c.args.item w c.text_given.result) (sym c.in-Braced.is) (c.text_given.ensures.becomes view w)

pub returns-in-Start-clause-knows : goal.returns-in-Start-clause-knows
returns-in-Start-clause-knows c known i = c.first_given.ensures.knows known

pub returns-in-Register-clause-knows : goal.returns-in-Register-clause-knows
returns-in-Register-clause-knows c known i = c.register_given.ensures.knows known

pub returns-in-Braced-clause-knows : goal.returns-in-Braced-clause-knows
returns-in-Braced-clause-knows c known i = c.text_given.ensures.knows known i
