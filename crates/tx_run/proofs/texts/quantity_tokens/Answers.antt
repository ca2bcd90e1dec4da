use Rattle.std.proofs.Common.{◌≡◌, IfOk, subst, ◌∙◌}
use Rattle.tx_private.specs.Texts.{tokens_of}
use Rattle.tx_views.specs.Views.{View, all_viewed}
use Rattle.tx_run.proofs.texts.quantity_tokens.Goals as goal

-- the tokens are those of the text
pub returns : goal.returns
returns c = subst (λ xs. IfOk c.text_tokens.result (λ tokens. (view : View) → all_viewed view tokens ≡ tokens_of xs)) (c.as_slice.ensures.value ∙ c.in_ok-text.ensures) c.text_tokens.ensures
