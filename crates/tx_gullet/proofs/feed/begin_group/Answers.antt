use Rattle.std.proofs.Common.{refl, ap, sym}
use Rattle.tx_model.specs.Moves.{Again, move_in}
use Rattle.tx_gullet.proofs.feed.begin_group.Goals as goal

pub returns-in-Ok-clause-answers : goal.returns-in-Ok-clause-answers
unfolding move_in
returns-in-Ok-clause-answers c t naming apart agrees = (refl, ap Again (sym (c.in-Ok.ensures.begun naming)))
