use Rattle.std.proofs.Common.{◌∷◌, [], ◌++◌, sym, ◌∙◌, ap, subst}
use Rattle.tx_frames.specs.Texts.{GoesOnWith}
use Rattle.tx_frames.specs.Knowledge.{KnowsTokens}
use Rattle.tx_frames.proofs.KnowledgeLemmas.{knows-append}
use Rattle.tx_frames.proofs.text.with_token.Goals as goal

pub returns-in-Ok-clause-becomes : goal.returns-in-Ok-clause-becomes
returns-in-Ok-clause-becomes c = subst (λ ts. GoesOnWith c.args.kind c.args.groups ts c.bounded.result) (c.in-Ok.ensures.items ∙ ap (λ ts. ts ++ c.args.token ∷ []) c.tokens.view_is) c.bounded.ensures.becomes

pub returns-in-Ok-clause-knows : goal.returns-in-Ok-clause-knows
returns-in-Ok-clause-knows c known k t =
    c.bounded.ensures.knows known
    (subst (λ ts. KnowsTokens known ts) (sym (c.in-Ok.ensures.items ∙ ap (λ ts. ts ++ c.args.token ∷ []) c.tokens.view_is))
    (knows-append known c.args.tokens (c.args.token ∷ []) k (t, tt)))
