use Rattle.std.proofs.Common.{sym, subst}
use Rattle.tx_frames.specs.declared.frame.Frame.TheVariants as frame
use Rattle.tx_frames.specs.Answers.{BecomesGiven}
use Rattle.tx_frames.proofs.simple.brace_given.Goals as goal

pub returns-in-Given-clause-becomes : goal.returns-in-Given-clause-becomes
returns-in-Given-clause-becomes c view w =
    subst (λ i. BecomesGiven view frame.LeftBrace i w c.brace_value_given.result) (sym c.in-Given.is) (c.brace_value_given.ensures.becomes view w)

pub returns-in-Given-clause-knows : goal.returns-in-Given-clause-knows
returns-in-Given-clause-knows c known = c.brace_value_given.ensures.knows known
