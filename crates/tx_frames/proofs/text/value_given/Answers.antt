use Rattle.std.proofs.Common.{◌∷◌, [], ◌++◌, refl, sym, subst}
use Rattle.tx_frames.specs.declared.frame.Frame.TheVariants as frame
use Rattle.tx_frames.specs.declared.value.Item.TheVariants as item
use Rattle.tx_frames.specs.declared.value.Value.TheVariants as value
use Rattle.tx_opens.specs.Opens.{given}
use Rattle.tx_frames.specs.Values.{item_in}
use Rattle.tx_frames.specs.Frames.{open_of}
use Rattle.tx_frames.specs.Texts.{as_open, goes_on}
use Rattle.tx_frames.specs.Answers.{BecomesGiven}
use Rattle.tx_frames.proofs.FrameLemmas.{becomes-same}
use Rattle.tx_frames.proofs.TextLemmas.{goes-append}
use Rattle.tx_frames.specs.Knowledge.{KnowsValue}
use Rattle.tx_frames.proofs.text.value_given.Goals as goal

pub returns-in-Command-clause-becomes : goal.returns-in-Command-clause-becomes
returns-in-Command-clause-becomes c view w =
    subst (λ v. BecomesGiven view (frame.Text c.args.text) (item.Given v) w c.token_given.result) (sym c.in-Command.is) (c.token_given.ensures.becomes view w)

pub returns-in-Tokens-clause-becomes : goal.returns-in-Tokens-clause-becomes
returns-in-Tokens-clause-becomes c view w =
    subst (λ v. BecomesGiven view (frame.Text c.args.text) (item.Given v) w c.tokens_given.result) (sym c.in-Tokens.is)
    (becomes-same view (given (open_of view (frame.Text c.args.text)) (item_in view (item.Given (value.Tokens c.in-Tokens.tokens)))) (as_open c.args.text.kind (λ items v. goes_on view c.args.text.kind v c.args.text.groups (c.args.text.tokens ++ c.in-Tokens.tokens) items v)) _ _ w c.tokens_given.result
    (record { kind = refl; says = λ i later v. goes-append view c.args.text.kind c.args.text.groups c.args.text.tokens c.in-Tokens.tokens (i ∷ later) v })
    (goes-append view c.args.text.kind c.args.text.groups c.args.text.tokens c.in-Tokens.tokens [] w)
    (c.tokens_given.ensures.becomes view w))

pub returns-in-Command-clause-knows : goal.returns-in-Command-clause-knows
returns-in-Command-clause-knows c known k v = c.token_given.ensures.knows known k (subst (λ x. KnowsValue known x) c.in-Command.is v).0

pub returns-in-Tokens-clause-knows : goal.returns-in-Tokens-clause-knows
returns-in-Tokens-clause-knows c known k v = c.tokens_given.ensures.knows known k (subst (λ x. KnowsValue known x) c.in-Tokens.is v)
