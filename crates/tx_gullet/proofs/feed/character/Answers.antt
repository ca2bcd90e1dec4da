use Rattle.std.proofs.Common.{sym, subst}
use Rattle.tx_gullet.specs.declared.frame.Frame.TheVariants as frame
use Rattle.tx_gullet.specs.declared.frame.Item.TheVariants as item
use Rattle.tx_gullet.specs.declared.meaning.Meaning.TheVariants as meaning
use Rattle.tx_gullet.specs.Scenes.{world_of}
use Rattle.tx_gullet.specs.Frames.{Comes, open_of, item_in}
use Rattle.tx_gullet.proofs.feed.character.Goals as goal

pub returns-in-Begin-clause-answers : goal.returns-in-Begin-clause-answers
returns-in-Begin-clause-answers c t naming apart agrees =
    subst (λ k. Comes naming (open_of naming frame.Control) (item_in naming (item.Expanded t (meaning.Character k c.args.byte))) (world_of naming c.args.scene.now) c.begin_group.result (world_of naming c.begin_group.new.scene)) (sym c.in-Begin.is) (c.begin_group.ensures.answers t naming apart agrees)

pub returns-in-End-clause-answers : goal.returns-in-End-clause-answers
returns-in-End-clause-answers c t naming apart agrees =
    subst (λ k. Comes naming (open_of naming frame.Control) (item_in naming (item.Expanded t (meaning.Character k c.args.byte))) (world_of naming c.args.scene.now) c.end_group.result (world_of naming c.end_group.new.scene)) (sym c.in-End.is) (c.end_group.ensures.answers t naming apart agrees)
