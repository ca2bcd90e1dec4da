use Rattle.std.proofs.Common.{sym, subst, refl}
use Rattle.tx_gullet.specs.declared.frame.Frame.TheVariants as frame
use Rattle.tx_gullet.specs.declared.frame.Item.TheVariants as item
use Rattle.tx_gullet.specs.Frames.{Comes, open_of, item_in, KnowsItem}
use Rattle.tx_gullet.proofs.feed.balanced.Goals as goal

pub returns-in-Token-clause-known : goal.returns-in-Token-clause-known
returns-in-Token-clause-known c names text one = c.added.ensures.known names text (subst (KnowsItem names) c.in-Token.is one)

pub returns-in-Token-clause-answers : goal.returns-in-Token-clause-answers
returns-in-Token-clause-answers c naming w =
    subst (λ i. Comes naming (open_of naming (frame.Balanced c.args.wish c.args.text)) (item_in naming i) w c.added.result w) (sym c.in-Token.is) (c.added.ensures.answers naming w (item_in naming (item.Token c.in-Token.token c.in-Token._meaning)) refl)

pub returns-in-Expanded-clause-known : goal.returns-in-Expanded-clause-known
returns-in-Expanded-clause-known c names text one = c.added-in-Expanded.ensures.known names text (subst (KnowsItem names) c.in-Expanded.is one)

pub returns-in-Expanded-clause-answers : goal.returns-in-Expanded-clause-answers
returns-in-Expanded-clause-answers c naming w =
    subst (λ i. Comes naming (open_of naming (frame.Balanced c.args.wish c.args.text)) (item_in naming i) w c.added-in-Expanded.result w) (sym c.in-Expanded.is) (c.added-in-Expanded.ensures.answers naming w (item_in naming (item.Expanded c.in-Expanded.token c.in-Expanded._meaning)) refl)
