use Rattle.std.proofs.Common.{◌++◌, sym, ◌∙◌, ap, subst}
use Rattle.tx_frames.specs.Texts.{GoesOnWith}
use Rattle.tx_frames.specs.Knowledge.{KnowsTokens}
use Rattle.tx_frames.proofs.KnowledgeLemmas.{knows-append}
use Rattle.tx_frames.proofs.text.tokens_given.Goals as goal

pub returns-in-Ok-clause-becomes : goal.returns-in-Ok-clause-becomes
returns-in-Ok-clause-becomes c =
    subst (λ ts. GoesOnWith c.args.text.kind c.args.text.groups ts c.bounded.result) (c.in-Ok.ensures.items ∙ ap (λ ts. ts ++ c.as_slice.result.now) c.tokens.view_is ∙ ap (λ ts. c.args.text.tokens ++ ts) c.as_slice.ensures) c.bounded.ensures.becomes

pub returns-in-Ok-clause-knows : goal.returns-in-Ok-clause-knows
returns-in-Ok-clause-knows c known k m =
    c.bounded.ensures.knows known
    (subst (λ ts. KnowsTokens known ts) (sym (c.in-Ok.ensures.items ∙ ap (λ ts. ts ++ c.as_slice.result.now) c.tokens.view_is ∙ ap (λ ts. c.args.text.tokens ++ ts) c.as_slice.ensures))
    (knows-append known c.args.text.tokens c.args.more k m))
