use Rattle.std.proofs.Common.{sym, subst}
use Rattle.tx_frames.specs.declared.frame.Frame.TheVariants as frame
use Rattle.tx_frames.specs.declared.value.Item.TheVariants as item
use Rattle.tx_frames.specs.Answers.{BecomesGiven}
use Rattle.tx_frames.proofs.scan.quantity_given.Goals as goal

pub returns-in-Amount-clause-becomes : goal.returns-in-Amount-clause-becomes
returns-in-Amount-clause-becomes c view w =
    subst (λ v. BecomesGiven view (frame.Scan c.args.reading c.args.scan) (item.Given v) w c.with_quantity.result) (sym c.in-Amount.is) (c.with_quantity.ensures.becomes view w)

pub returns-in-Amount-clause-knows : goal.returns-in-Amount-clause-knows
returns-in-Amount-clause-knows c known r s = c.with_quantity.ensures.knows known r s
