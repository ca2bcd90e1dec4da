use Rattle.std.proofs.Common.{◌≡◌, drop, None}
use Rattle.indexmap.specs.IndexMap.{IsUnique}
use Rattle.tx_eqtb.specs.declared.addr.Addr.{Addr}
use Rattle.tx_eqtb.specs.Addresses.{same, entry_at}
use Rattle.tx_format.specs.declared.fill.TheConstants.{KINDS}
use Rattle.tx_format.proofs.FillLemmas.{filled_by}
use Rattle.tx_format.proofs.fill.all_told.Given as goal

-- what is still to come makes of the map what all kinds make of nothing
abbrev pub invariant-loop-kind : goal.invariant-loop-kind
invariant-loop-kind l =
    ((q : Addr) → filled_by l.preset (drop l.kind-index l.kind-items) q (entry_at l.map.entries q) ≡ filled_by l.preset KINDS q None)
    × IsUnique same l.map × (l.kind-items ≡ KINDS)
