use Rattle.std.proofs.Common.{refl, ap, sym, ◌∙◌}
use Rattle.tx_model.specs.Shown.{text_of_list}
use Rattle.tx_model.specs.World.{logged}
use Rattle.tx_model.specs.Moves.{Again}
use Rattle.tx_tok.specs.Tokens.{tokens_in}
use Rattle.tx_gullet.specs.Levels.{levels}
use Rattle.tx_gullet.specs.Scenes.{world_of}
use Rattle.tx_gullet.proofs.feed.message_given.Goals as goal

pub returns-in-Ok-clause-answers : goal.returns-in-Ok-clause-answers
returns-in-Ok-clause-answers c naming apart agrees = (
  refl,
  ap Again (sym (c.in-Ok.ensures.logged naming agrees
      ∙ ap (λ ts. logged (text_of_list (levels naming c.args.scene.now.equivalents) (tokens_in naming ts)) (world_of naming c.args.scene.now)) c.as_slice.ensures.value)),
)
