use Rattle.std.proofs.Common.{◌≡◌}
use Rattle.indexmap.specs.IndexMap.{IsUnique}
use Rattle.tx_eqtb.specs.declared.addr.Addr.{Addr}
use Rattle.tx_eqtb.specs.Addresses.{same, entry_at}
use Rattle.tx_format.specs.Fillings.{filled}
use Rattle.tx_format.proofs.fill.fill.Given as goal

abbrev pub invariant-loop-no : goal.invariant-loop-no
invariant-loop-no l =
    ((q : Addr) → entry_at l.map.entries q ≡ filled l.preset l.kind l.no q (entry_at l.initial.map.entries q)) × IsUnique same l.map
