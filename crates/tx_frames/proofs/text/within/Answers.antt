use Rattle.std.proofs.Common.{◌∷◌, [], ◌++◌, subst}
use Rattle.tx_frames.specs.Texts.{GoesOnWith}
use Rattle.tx_frames.proofs.text.within.Goals as goal

pub returns-in-Some-clause-becomes : goal.returns-in-Some-clause-becomes
returns-in-Some-clause-becomes c =
    subst (λ n. GoesOnWith c.args.text.kind n (c.args.text.tokens ++ c.args.token ∷ []) c.with_token.result) c.in-Some.ensures.1 c.with_token.ensures.becomes

pub returns-in-Some-clause-knows : goal.returns-in-Some-clause-knows
returns-in-Some-clause-knows c known k t = c.with_token.ensures.knows known k t
