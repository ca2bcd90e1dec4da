use Rattle.std.proofs.Common.{false, sym, ◌∙◌, ap}
use Rattle.tx_model.specs.World.{Takes}
use Rattle.tx_model.proofs.Opens.{comes-token}
use Rattle.tx_tok.specs.Tokens.{token_in}
use Rattle.tx_gullet.specs.Scenes.{world_of}
use Rattle.tx_gullet.specs.Frames.{command_in, open_of, wished}
use Rattle.tx_gullet.specs.Runs.{outer}
use Rattle.tx_gullet.proofs.RunLemmas.{says-wish}
use Rattle.tx_gullet.proofs.running.Running.taken.Goals as goal

pub expanded-requires-clause-meaning : goal.expanded-requires-clause-meaning
expanded-requires-clause-meaning c = c.in-Ok.ensures.knows c.args.self.now.scene.names c.requires.sound.scene.equivalents

pub returns-in-Plain-clause-took : goal.returns-in-Plain-clause-took
returns-in-Plain-clause-took c naming apart agrees r e w takes =
    comes-token (open_of naming c.args.self.now.frame) (outer naming c.args.self.now) w (world_of naming c.args.self.now.scene) (command_in naming c.args.token c.in-Ok.meaning) r
    (says-wish naming c.args.self.now.frame w ∙ ap wished (sym c.in-Plain.ensures))
    (takes ∙ ap (λ m. Takes (record { token = token_in naming c.args.token; marked = false; meaning = m }) (world_of naming c.args.self.now.scene)) (sym (c.in-Ok.ensures.meaning naming apart)))
    (c.feed.ensures.feeds naming apart agrees r e)
