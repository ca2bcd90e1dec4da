use Rattle.std.proofs.Common.{sym, subst}
use Rattle.tx_private.specs.Readings as private
use Rattle.tx_frames.specs.declared.frame.Frame.TheVariants as frame
use Rattle.tx_frames.specs.declared.value.Item.TheVariants as item
use Rattle.tx_frames.specs.declared.value.Value.TheVariants as value
use Rattle.tx_frames.specs.Answers.{BecomesGiven}
use Rattle.tx_frames.specs.Values.{value_in}
use Rattle.tx_frames.specs.Knowledge.{KnowsValue}
use Rattle.tx_frames.proofs.scan.token_given.Goals as goal

pub returns-in-Command-clause-becomes : goal.returns-in-Command-clause-becomes
returns-in-Command-clause-becomes c view w =
    subst (λ v. BecomesGiven view (frame.Scan c.args.reading c.args.scan) (item.Given v) w c.with_token.result) (sym c.in-Command.is) (c.with_token.ensures.becomes view w)

pub returns-in-TextEnd-clause-becomes : goal.returns-in-TextEnd-clause-becomes
returns-in-TextEnd-clause-becomes c view w =
    subst (λ v. BecomesGiven view (frame.Scan c.args.reading c.args.scan) (item.Given v) w c.at_end.result) (sym c.in-TextEnd.is) (c.at_end.ensures.becomes view private.TextEnd w tt)

pub returns-in-Tokens-clause-becomes : goal.returns-in-Tokens-clause-becomes
returns-in-Tokens-clause-becomes c view w =
    subst (λ v. BecomesGiven view (frame.Scan c.args.reading c.args.scan) (item.Given v) w c.at_end-in-Tokens.result) (sym c.in-Tokens.is) (c.at_end-in-Tokens.ensures.becomes view (value_in view (value.Tokens c.in-Tokens._tokens)) w tt)

pub returns-in-Amount-clause-becomes : goal.returns-in-Amount-clause-becomes
returns-in-Amount-clause-becomes c view w =
    subst (λ v. BecomesGiven view (frame.Scan c.args.reading c.args.scan) (item.Given v) w c.at_end-in-Amount.result) (sym c.in-Amount.is) (c.at_end-in-Amount.ensures.becomes view (value_in view (value.Amount c.in-Amount._quantity)) w tt)

pub returns-in-Word-clause-becomes : goal.returns-in-Word-clause-becomes
returns-in-Word-clause-becomes c view w =
    subst (λ v. BecomesGiven view (frame.Scan c.args.reading c.args.scan) (item.Given v) w c.at_end-in-Word.result) (sym c.in-Word.is) (c.at_end-in-Word.ensures.becomes view (value_in view (value.Word c.in-Word._place)) w tt)

pub returns-in-Nothing-clause-becomes : goal.returns-in-Nothing-clause-becomes
returns-in-Nothing-clause-becomes c view w =
    subst (λ v. BecomesGiven view (frame.Scan c.args.reading c.args.scan) (item.Given v) w c.at_end-in-Nothing.result) (sym c.in-Nothing.is) (c.at_end-in-Nothing.ensures.becomes view private.Nothing w tt)

pub returns-in-Command-clause-knows : goal.returns-in-Command-clause-knows
returns-in-Command-clause-knows c known r s v = let k = (subst (λ x. KnowsValue known x) c.in-Command.is v) in c.with_token.ensures.knows known r s k.0 k.1

pub returns-in-TextEnd-clause-knows : goal.returns-in-TextEnd-clause-knows
returns-in-TextEnd-clause-knows c known r s v = c.at_end.ensures.knows known r s

pub returns-in-Tokens-clause-knows : goal.returns-in-Tokens-clause-knows
returns-in-Tokens-clause-knows c known r s v = c.at_end-in-Tokens.ensures.knows known r s

pub returns-in-Amount-clause-knows : goal.returns-in-Amount-clause-knows
returns-in-Amount-clause-knows c known r s v = c.at_end-in-Amount.ensures.knows known r s

pub returns-in-Word-clause-knows : goal.returns-in-Word-clause-knows
returns-in-Word-clause-knows c known r s v = c.at_end-in-Word.ensures.knows known r s

pub returns-in-Nothing-clause-knows : goal.returns-in-Nothing-clause-knows
returns-in-Nothing-clause-knows c known r s v = c.at_end-in-Nothing.ensures.knows known r s
