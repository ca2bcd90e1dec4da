use Rattle.std.proofs.Common.{◌≡◌, w32, IfOk, subst, ◌∙◌, rules}
use Rattle.std.proofs.lemmas.Int.{to_z-of_z}
use mir.Val.{SFits}
use Rattle.tx_private.specs.Errors.{decimal_of}
use Rattle.tx_private.specs.Texts.{tokens_of}
use Rattle.tx_views.specs.Views.{View, all_viewed}
use Rattle.tx_run.proofs.texts.number_tokens.Goals as goal

-- the tokens are those of the text
pub returns : goal.returns
returns c =
    let fits : SFits w32 c.args.number = search rules in
    let text : c.in_ok-text.text.items ≡ decimal_of c.args.number = subst (λ n. c.in_ok-text.text.items ≡ decimal_of n) (to_z-of_z w32 c.args.number fits) c.in_ok-text.ensures in
    subst (λ xs. IfOk c.text_tokens.result (λ tokens. (view : View) → all_viewed view tokens ≡ tokens_of xs)) (c.as_slice.ensures.value ∙ text) c.text_tokens.ensures
