use Rattle.tx_frames.specs.Knowledge.{KnowsFrame}
use Rattle.std.proofs.Common.{◌≡◌, [], ◌∷◌, sym, subst}
use Rattle.tx_private.specs.Scans.{letter_of}
use Rattle.tx_views.specs.Views.{viewed}
use Rattle.tx_views.specs.Meanings.{sense_in}
use Rattle.tx_frames.specs.declared.frame.Frame.{Frame}
use Rattle.tx_frames.specs.declared.value.Item.TheVariants as item
use Rattle.tx_frames.specs.Answers.{BecomesGiven}
use Rattle.tx_run.specs.Readings.{letter_given}
use Rattle.tx_run.proofs.took.feed_token.Goals as goal

-- a scan is given the token's code too
pub returns-in-Scan : goal.returns-in-Scan
returns-in-Scan c = record {
  becomes = λ view w same.
      let code = letter_of (viewed view c.args.token) in
      let right = subst (λ (f : Frame). letter_given (f ∷ []) c.args.letter ≡ letter_given (f ∷ []) code) c.in-Scan.is same in
      subst (λ (f : Frame). BecomesGiven view f (item.Token c.args.token c.args.sense) w c.feed_letter.result) (sym c.in-Scan.is) (c.feed_letter.ensures.becomes view (sense_in view c.args.sense) w right);
  knows = λ known frame token means. c.feed_letter.ensures.knows known (subst (λ (f : Frame). KnowsFrame known f) c.in-Scan.is frame) token;
}

-- any other reading is given the token alone
pub returns-in_default : goal.returns-in_default
returns-in_default c = record {
  becomes = λ view w same. c.feed.ensures.becomes view w;
  knows = λ known frame token means. c.feed.ensures.knows known frame (token, means);
}
