use Rattle.std.proofs.Common.{◌∙◌, sym}
use Rattle.tx_eqtb.specs.Addresses.{same}
use Rattle.tx_eqtb.proofs.EntryLemmas.{sum_by-removed}
use Rattle.tx_eqtb.proofs.maps.remove.Goals as goal

pub returns-clause-sums : goal.returns-clause-sums
returns-clause-sums g c f = rw c.swap_remove.ensures.entries (sum_by-removed f c.args.map.now.entries (same c.args.at) c.unwrap.result (sym c.swap_remove.ensures.value ∙ c.unwrap.ensures))
