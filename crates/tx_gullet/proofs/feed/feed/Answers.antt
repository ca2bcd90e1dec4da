use Rattle.std.proofs.Common.{sym, subst}
use Rattle.tx_gullet.specs.Scenes.{world_of}
use Rattle.tx_gullet.specs.Frames.{Comes, Answers, open_of, item_in, KnowsFrame}
use Rattle.tx_gullet.proofs.feed.feed.Goals as goal

pub returns-in-Control-clause-known : goal.returns-in-Control-clause-known
returns-in-Control-clause-known c = c.control.ensures.known c.control.new.scene.names

pub returns-in-Control-clause-answers : goal.returns-in-Control-clause-answers
returns-in-Control-clause-answers c =
    subst (λ f. Answers f c.args.item c.args.scene.now c.control.result c.control.new.scene) (sym c.in-Control.is) c.control.ensures.answers

pub returns-in-Message-clause-known : goal.returns-in-Message-clause-known
returns-in-Message-clause-known c = c.message.ensures.known c.args.scene.now.names

pub returns-in-Message-clause-answers : goal.returns-in-Message-clause-answers
returns-in-Message-clause-answers c naming apart agrees =
    subst (λ f. Comes naming (open_of naming f) (item_in naming c.args.item) (world_of naming c.args.scene.now) c.message.result (world_of naming c.args.scene.now)) (sym c.in-Message.is) (c.message.ensures.answers naming (world_of naming c.args.scene.now))

pub returns-in-Definition-clause-known : goal.returns-in-Definition-clause-known
returns-in-Definition-clause-known c = c.definition.ensures.known c.args.scene.now.names

pub returns-in-Definition-clause-answers : goal.returns-in-Definition-clause-answers
returns-in-Definition-clause-answers c naming apart agrees =
    subst (λ f. Comes naming (open_of naming f) (item_in naming c.args.item) (world_of naming c.args.scene.now) c.definition.result (world_of naming c.args.scene.now)) (sym c.in-Definition.is) (c.definition.ensures.answers naming (world_of naming c.args.scene.now))

pub returns-in-DefinitionOf-clause-known : goal.returns-in-DefinitionOf-clause-known
returns-in-DefinitionOf-clause-known c = c.definition_of.ensures.known c.args.scene.now.names

pub returns-in-DefinitionOf-clause-answers : goal.returns-in-DefinitionOf-clause-answers
returns-in-DefinitionOf-clause-answers c naming apart agrees =
    subst (λ f. Comes naming (open_of naming f) (item_in naming c.args.item) (world_of naming c.args.scene.now) c.definition_of.result (world_of naming c.args.scene.now)) (sym c.in-DefinitionOf.is) (c.definition_of.ensures.answers naming (world_of naming c.args.scene.now))

pub returns-in-Balanced-clause-known : goal.returns-in-Balanced-clause-known
returns-in-Balanced-clause-known c = c.balanced.ensures.known c.args.scene.now.names (subst (KnowsFrame c.args.scene.now.names) c.in-Balanced.is c.requires.frame) c.requires.item

pub returns-in-Balanced-clause-answers : goal.returns-in-Balanced-clause-answers
returns-in-Balanced-clause-answers c naming apart agrees =
    subst (λ f. Comes naming (open_of naming f) (item_in naming c.args.item) (world_of naming c.args.scene.now) c.balanced.result (world_of naming c.args.scene.now)) (sym c.in-Balanced.is) (c.balanced.ensures.answers naming (world_of naming c.args.scene.now))
