use Rattle.std.proofs.Common.{sym, subst}
use Rattle.tx_frames.specs.declared.frame.Frame.TheVariants as frame
use Rattle.tx_frames.specs.declared.value.Item.TheVariants as item
use Rattle.tx_frames.specs.Answers.{BecomesGiven}
use Rattle.tx_frames.specs.Knowledge.{KnowsValue}
use Rattle.tx_frames.proofs.simple.equals_value_given.Goals as goal

pub returns-in-Command-clause-becomes : goal.returns-in-Command-clause-becomes
returns-in-Command-clause-becomes c view w =
    subst (λ v. BecomesGiven view frame.Equals (item.Given v) w c.equals.result) (sym c.in-Command.is) (c.equals.ensures.becomes view w)

pub returns-in-Command-clause-knows : goal.returns-in-Command-clause-knows
returns-in-Command-clause-knows c known v = c.equals.ensures.knows known (subst (λ x. KnowsValue known x) c.in-Command.is v).0
