use Rattle.tx_eqtb.specs.Tables.{Table}
use Rattle.tx_eqtb.proofs.HeldLemmas.{held-restored}
use Rattle.tx_eqtb.proofs.TableLemmas.{now-restored}
use Rattle.tx_eqtb.proofs.overlay.Overlay.undo.Goals as goal

pub returns-clause-now : goal.returns-clause-now
returns-clause-now g c =
    let t : Table _ = record { entries = c.self.inside.entries.entries; journal = c.self.inside.journal.entries } in
    rw (← c.self.view_is) (now-restored t _ c.in_ok-at.at c.in_ok-at.before c.in_ok-at.ensures.value c.in_ok-at.ensures.found c.restore.ensures.found)

pub returns-clause-held : goal.returns-clause-held
returns-clause-held g c =
    let t : Table _ = record { entries = c.self.inside.entries.entries; journal = c.self.inside.journal.entries } in
    let u : Table _ = record { entries = c.restore.new.entries.entries; journal = c.pop.new.map.entries } in
    rw (← c.self.view_is) (held-restored t u c.in_ok-at.before c.restore.result c.in_ok-at.ensures.sums c.restore.ensures.counts)
