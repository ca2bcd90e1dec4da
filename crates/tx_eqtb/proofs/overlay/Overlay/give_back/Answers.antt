use Rattle.tx_eqtb.specs.Tables.{Table}
use Rattle.tx_eqtb.proofs.HeldLemmas.{held-restored}
use Rattle.tx_eqtb.proofs.TableLemmas.{now-given}
use Rattle.tx_eqtb.proofs.overlay.Overlay.give_back.Goals as goal

pub returns-clause-now : goal.returns-clause-now
returns-clause-now g c =
    let t : Table _ = record { entries = c.self.inside.entries.entries; journal = c.self.inside.journal.entries } in
    let u : Table _ = record { entries = c.restore.new.entries.entries; journal = c.remove-before.new.map.entries } in
    rw (← c.self.view_is) (now-given t u c.args.at c.remove-before.result c.remove-before.ensures.value c.restore.ensures.found)

pub returns-clause-held : goal.returns-clause-held
returns-clause-held g c =
    let t : Table _ = record { entries = c.self.inside.entries.entries; journal = c.self.inside.journal.entries } in
    let u : Table _ = record { entries = c.restore.new.entries.entries; journal = c.remove-before.new.map.entries } in
    rw (← c.self.view_is) (held-restored t u c.remove-before.result c.restore.result c.remove-before.ensures.sums c.restore.ensures.counts)
