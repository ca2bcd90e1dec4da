use Rattle.std.proofs.Common.{sym, subst}
use Rattle.tx_gullet.specs.declared.frame.Frame.TheVariants as frame
use Rattle.tx_gullet.specs.Frames.{Comes, open_of, item_in}
use Rattle.tx_gullet.proofs.feed.definition.Goals as goal

pub returns-in-Token-clause-answers : goal.returns-in-Token-clause-answers
returns-in-Token-clause-answers c naming w =
    subst (λ i. Comes naming (open_of naming frame.Definition) (item_in naming i) w c.named.result w) (sym c.in-Token.is) (c.named.ensures.answers naming w c.in-Token.field-1)
