use Rattle.std.proofs.Common.{sym, ◌∙◌}
use Rattle.indexmap.proofs.CallerLemmas.{insert_entry-new}
use Rattle.tx_eqtb.specs.Tables.{Table}
use Rattle.tx_eqtb.specs.Addresses.{same}
use Rattle.tx_eqtb.proofs.HeldLemmas.{held-kept, held-new}
use Rattle.tx_eqtb.proofs.overlay.Overlay.set.Goals as goal

pub returns-in-Ok-Some-clause-held : goal.returns-in-Ok-Some-clause-held
returns-in-Ok-Some-clause-held g c =
    let t : Table _ = record { entries = c.self.inside.entries.entries; journal = c.self.inside.journal.entries } in
    rw (← c.self.view_is) (held-kept t _ c.reserve.new.self.entries _ c.args.at c.args.m c.in-Ok-Some.old (sym c.in-Ok-Some.ensures.old ∙ c.in-Ok-Some.field-0-is) c.in-Ok-Some.ensures.entries c.reserve.ensures.entries c.add.ensures.entries)

pub returns-in-Ok-None-clause-held : goal.returns-in-Ok-None-clause-held
returns-in-Ok-None-clause-held g c =
    let t : Table _ = record { entries = c.self.inside.entries.entries; journal = c.self.inside.journal.entries } in
    rw (← c.self.view_is) (held-new t _ c.reserve.new.self.entries _ c.args.at c.args.m (c.in-Ok-None.ensures.entries ∙ insert_entry-new same c.self.inside.entries c.args.at c.args.m (sym c.in-Ok-None.ensures.old ∙ c.in-Ok-None.field-0-is)) c.reserve.ensures.entries c.add-in-Ok-None.ensures.entries)
