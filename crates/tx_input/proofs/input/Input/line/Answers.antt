use Rattle.std.proofs.Common.{◌∙◌, sym}
use Rattle.tx_views.specs.Views.{all_viewed}
use Rattle.tx_input.specs.Texts.{text_members}
use Rattle.tx_input.proofs.TakingLemmas.{line-of-text}
use Rattle.tx_input.proofs.input.Input.line.Goals as goal

pub returns : goal.returns
returns c view =
    c.line.ensures ∙ sym (line-of-text (all_viewed view c.args.self.now.lists) (text_members c.args.self.now.text))
