use Rattle.std.proofs.Common.{◌∙◌}
use Rattle.indexmap.proofs.CallerLemmas.{insert_entry-new}
use Rattle.tx_eqtb.specs.Addresses.{same}
use Rattle.tx_eqtb.proofs.EntryLemmas.{on_ok}
use Rattle.tx_eqtb.proofs.maps.add.Goals as goal

pub returns-clause-entries : goal.returns-clause-entries
returns-clause-entries g c = on_ok _ _ c.unwrap.ensures c.insert.ensures.entries ∙ insert_entry-new same c.args.map.now c.args.at c.args.value c.requires.absent
