use Rattle.tx_run.proofs.KnowledgeLemmas.{first-known}
use Rattle.std.proofs.Common.{List, sym, ◌∙◌, ap}
use Rattle.tx_frames.specs.declared.frame.Frame.{Frame}
use Rattle.tx_run.specs.Readings.{wish_in}
use Rattle.tx_run.proofs.run.Run.wish.Goals as goal

-- the innermost reading's wish
pub returns-in-Some-clause-wishes : goal.returns-in-Some-clause-wishes
returns-in-Some-clause-wishes c = c.wish.ensures.wish ∙ sym (ap (λ (frames : List Frame). wish_in frames c.args.self.now.command) c.in-Some.ensures.some.1)

-- or the command's
pub returns-in-None : goal.returns-in-None
returns-in-None c = record {
  wishes = c.wish-in-None.ensures.wish ∙ sym (ap (λ (frames : List Frame). wish_in frames c.args.self.now.command) c.in-None.ensures.none);
  knows = λ known behind. c.wish-in-None.ensures.knows known behind.control;
}

pub returns-in-Some-clause-knows : goal.returns-in-Some-clause-knows
returns-in-Some-clause-knows c known behind =
    c.wish.ensures.knows known (first-known known c.args.self.now.frames c.in-Some.frame.now c.in-Some.ensures.some.0 c.in-Some.ensures.some.1 behind.readings).0
