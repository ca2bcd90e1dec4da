use Rattle.std.proofs.Common.{refl, ap, sym}
use Rattle.tx_model.specs.Moves.{Again}
use Rattle.tx_gullet.proofs.feed.definition_given.Goals as goal

pub returns-in-Ok-clause-answers : goal.returns-in-Ok-clause-answers
returns-in-Ok-clause-answers c naming apart agrees = (refl, ap Again (sym (c.in-Ok.ensures.defined naming apart)))
