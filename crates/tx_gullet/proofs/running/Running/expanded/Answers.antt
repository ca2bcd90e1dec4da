use Rattle.std.proofs.Common.{refl, sym, ◌∙◌, ap}
use Rattle.tx_model.specs.declared.error.Error.TheVariants.{UndefinedControlSequence}
use Rattle.tx_model.specs.World.{Takes}
use Rattle.tx_model.specs.Moves.{Again}
use Rattle.tx_model.proofs.Opens.{comes-unexpanded, comes-expanded, comes-unexpandable}
use Rattle.tx_gullet.specs.declared.meaning.Meaning.TheVariants as meaning
use Rattle.tx_gullet.specs.Scenes.{world_of}
use Rattle.tx_gullet.specs.Frames.{command_in, open_of, wished}
use Rattle.tx_gullet.specs.Runs.{outer}
use Rattle.tx_gullet.proofs.RunLemmas.{says-wish}
use Rattle.tx_gullet.proofs.running.Running.expanded.Goals as goal

pub returns-in-Undefined-clause-took : goal.returns-in-Undefined-clause-took
returns-in-Undefined-clause-took c naming apart agrees r e w takes =
    comes-unexpanded (open_of naming c.args.self.now.frame) (outer naming c.args.self.now) w (world_of naming c.args.self.now.scene) (command_in naming c.args.token meaning.Undefined) UndefinedControlSequence r
    (says-wish naming c.args.self.now.frame w ∙ ap wished c.requires.wish)
    (takes ∙ ap (λ m. Takes (command_in naming c.args.token m) (world_of naming c.args.self.now.scene)) c.in-Undefined.is)
    refl e

pub returns-in-Ok-clause-took : goal.returns-in-Ok-clause-took
returns-in-Ok-clause-took c naming apart agrees r e w takes =
    comes-expanded (open_of naming c.args.self.now.frame) (outer naming c.args.self.now) w (world_of naming c.args.self.now.scene) (world_of naming c.open_list.new.self) (command_in naming c.args.token (meaning.Macro c.in-Macro.list)) r
    (λ v. says-wish naming c.args.self.now.frame v ∙ ap wished c.requires.wish)
    (takes ∙ ap (λ m. Takes (command_in naming c.args.token m) (world_of naming c.args.self.now.scene)) c.in-Macro.is)
    (ap Again (sym (c.in-Ok.ensures.in_front naming)))
    e

pub returns-in-Primitive-clause-took : goal.returns-in-Primitive-clause-took
returns-in-Primitive-clause-took c naming apart agrees r e w takes =
    comes-unexpandable (open_of naming c.args.self.now.frame) (outer naming c.args.self.now) w (world_of naming c.args.self.now.scene) (command_in naming c.args.token (meaning.Primitive c.in-Primitive.primitive)) r
    (says-wish naming c.args.self.now.frame w ∙ ap wished c.requires.wish)
    (takes ∙ ap (λ m. Takes (command_in naming c.args.token m) (world_of naming c.args.self.now.scene)) c.in-Primitive.is)
    refl
    (c.feed.ensures.feeds naming apart agrees r e)

pub returns-in-Character-clause-took : goal.returns-in-Character-clause-took
returns-in-Character-clause-took c naming apart agrees r e w takes =
    comes-unexpandable (open_of naming c.args.self.now.frame) (outer naming c.args.self.now) w (world_of naming c.args.self.now.scene) (command_in naming c.args.token (meaning.Character c.in-Character.cat c.in-Character.byte)) r
    (says-wish naming c.args.self.now.frame w ∙ ap wished c.requires.wish)
    (takes ∙ ap (λ m. Takes (command_in naming c.args.token m) (world_of naming c.args.self.now.scene)) c.in-Character.is)
    refl
    (c.feed-in-Character.ensures.feeds naming apart agrees r e)
