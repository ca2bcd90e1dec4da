use Rattle.std.proofs.Common.{sym, subst}
use Rattle.tx_names.specs.Names.{Agrees}
use Rattle.tx_gullet.specs.Scenes.{world_of}
use Rattle.tx_gullet.specs.Frames.{Answers, kind_of, says, item_in}
use Rattle.tx_gullet.specs.Runs.{outer}
use Rattle.tx_gullet.proofs.RunLemmas.{answered}
use Rattle.tx_gullet.proofs.running.Running.feed.Goals as goal

pub returns-clause-feeds : goal.returns-clause-feeds
returns-clause-feeds c naming apart agrees r e =
    let answers = subst (λ f. Answers f c.args.item c.args.self.now.scene c.feed-answer.result c.feed-answer.new.scene) c.replace-frame.ensures.value c.feed-answer.ensures.answers in
    answered naming (kind_of c.args.self.now.frame) (says naming c.args.self.now.frame) (item_in naming c.args.item) (world_of naming c.args.self.now.scene) (world_of naming c.feed-answer.new.scene) c.feed-answer.result (outer naming c.args.self.now) r
    (answers naming apart agrees)
    (c.settle.ensures.settles naming apart (subst (Agrees naming) (sym c.feed-answer.ensures.names) agrees) r e)
