use Rattle.std.proofs.Common.{sym, subst}
use Rattle.tx_frames.specs.declared.frame.Frame.TheVariants as frame
use Rattle.tx_frames.specs.Answers.{BecomesGiven}
use Rattle.tx_frames.specs.Knowledge.{KnowsItem}
use Rattle.tx_frames.proofs.scan.scan_given.Goals as goal

pub returns-clause-becomes : goal.returns-clause-becomes
returns-clause-becomes c view w =
    subst (λ i. BecomesGiven view (frame.Scan c.args.reading c.args.scan) i w c.value_given.result) (sym c.in-Given.is) (c.value_given.ensures.becomes view w)

pub returns-clause-knows : goal.returns-clause-knows
returns-clause-knows c known r s i = c.value_given.ensures.knows known r s (subst (λ x. KnowsItem known x) c.in-Given.is i)
