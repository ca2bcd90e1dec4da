use Rattle.std.proofs.Common.{ap, ◌∙◌, sym, subst}
use Rattle.tx_model.specs.Environment.{defining, Macro}
use Rattle.tx_model.specs.World.{with_environment}
use Rattle.tx_tok.specs.Tokens.{tokens_in}
use Rattle.tx_gullet.specs.Meanings.{AreKnown}
use Rattle.tx_gullet.specs.Levels.{levels}
use Rattle.tx_gullet.specs.Scenes.{world_of}
use Rattle.tx_gullet.proofs.scene.Scene.define.Goals as goal

pub returns-clause-defined : goal.returns-clause-defined
returns-clause-defined c naming apart =
    ap (λ maps. with_environment maps (world_of naming c.args.self.now)) (c.in_ok-define.ensures.levels naming apart)
    ∙ ap (λ v. with_environment (defining (naming c.args.number) (Macro (tokens_in naming v.items)) (levels naming c.args.self.now.equivalents)) (world_of naming c.args.self.now)) c.in_ok-list.ensures.ok

pub returns-clause-sound : goal.returns-clause-sound
returns-clause-sound c = record {
  equivalents = c.in_ok-define.ensures.knows c.args.self.now.names c.requires.sound.equivalents (subst (λ v. AreKnown c.args.self.now.names v.items) (sym c.in_ok-list.ensures.ok) c.requires.known);
  lists = c.requires.sound.lists;
}
