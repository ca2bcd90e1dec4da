use Rattle.std.proofs.Common.{ap}
use Rattle.tx_gullet.proofs.UndoLemmas.{keeps-restored, keeps-through}
use Rattle.tx_gullet.proofs.equivalents.Equivalents.undo.Goals as goal

pub saves-preserved : goal.saves-preserved
saves-preserved c =
    let kept = keeps-restored c.saves.self c.restore.new.self c.pop.new.self.items c.in-Some.save c.in-Name.number c.in-Name.before c.restore.ensures.cats c.restore.ensures.names (ap (λ v. v.items) c.restore.ensures.saves) c.in-Some.ensures.items c.in-Name.is in (
      keeps-through _ c.saves.self c.restore.new.self c.saves.invariant.0 kept,
      kept.has_cells c.saves.invariant.1,
    )
