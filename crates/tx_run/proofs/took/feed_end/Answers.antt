use Rattle.tx_frames.specs.Knowledge.{KnowsFrame}
use Rattle.std.proofs.Common.{refl, sym, subst}
use Rattle.tx_private.specs.Meanings as meaning
use Rattle.tx_frames.specs.declared.frame.Frame.{Frame}
use Rattle.tx_frames.specs.declared.value.Item.TheVariants as item
use Rattle.tx_frames.specs.Answers.{BecomesGiven}
use Rattle.tx_run.proofs.took.feed_end.Goals as goal

-- a scan is given the text's end in place of a letter
pub returns-in-Scan : goal.returns-in-Scan
returns-in-Scan c = record {
  becomes = λ view w. subst (λ (f : Frame). BecomesGiven view f item.End w c.feed_letter.result) (sym c.in-Scan.is) (c.feed_letter.ensures.becomes view meaning.Undefined w refl);
  knows = λ known frame. c.feed_letter.ensures.knows known (subst (λ (f : Frame). KnowsFrame known f) c.in-Scan.is frame) tt;
}

-- any other reading
pub returns-in_default : goal.returns-in_default
returns-in_default c = record {
  becomes = λ view w. c.feed.ensures.becomes view w;
  knows = λ known frame. c.feed.ensures.knows known frame tt;
}
