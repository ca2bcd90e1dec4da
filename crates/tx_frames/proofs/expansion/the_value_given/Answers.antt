use Rattle.std.proofs.Common.{sym, subst}
use Rattle.tx_frames.specs.declared.frame.Frame.TheVariants as frame
use Rattle.tx_frames.specs.declared.frame.Stage.TheVariants as stage
use Rattle.tx_frames.specs.declared.value.Item.TheVariants as item
use Rattle.tx_frames.specs.Answers.{BecomesGiven}
use Rattle.tx_frames.specs.Knowledge.{KnowsValue}
use Rattle.tx_frames.proofs.expansion.the_value_given.Goals as goal

pub returns-in-Command-clause-becomes : goal.returns-in-Command-clause-becomes
returns-in-Command-clause-becomes c view w =
    subst (λ v. BecomesGiven view (frame.Expansion c.args.text stage.The) (item.Given v) w c.the.result) (sym c.in-Command.is) (c.the.ensures.becomes view w)

pub returns-in-Command-clause-knows : goal.returns-in-Command-clause-knows
returns-in-Command-clause-knows c known v = let k = (subst (λ x. KnowsValue known x) c.in-Command.is v) in c.the.ensures.knows known k.0 k.1
