use Rattle.std.proofs.Common.{sym, subst}
use Rattle.tx_gullet.specs.declared.frame.Frame.TheVariants as frame
use Rattle.tx_gullet.specs.declared.frame.Item.TheVariants as item
use Rattle.tx_gullet.specs.Scenes.{world_of}
use Rattle.tx_gullet.specs.Frames.{Comes, Answers, open_of, item_in}
use Rattle.tx_gullet.proofs.feed.command.Goals as goal

pub returns-in-Primitive-clause-answers : goal.returns-in-Primitive-clause-answers
returns-in-Primitive-clause-answers c t naming apart agrees =
    subst (λ m. Comes naming (open_of naming frame.Control) (item_in naming (item.Expanded t m)) (world_of naming c.args.scene.now) c.primitive_command.result (world_of naming c.args.scene.now)) (sym c.in-Primitive.is) (c.primitive_command.ensures.answers t naming (world_of naming c.args.scene.now))

pub returns-in-Character-clause-answers : goal.returns-in-Character-clause-answers
returns-in-Character-clause-answers c t =
    subst (λ m. Answers frame.Control (item.Expanded t m) c.args.scene.now c.character.result c.character.new.scene) (sym c.in-Character.is) (c.character.ensures.answers t)
