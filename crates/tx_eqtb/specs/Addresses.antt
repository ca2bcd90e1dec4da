-- Addresses.
use Rattle.std.specs.Prelude.{Bool, List, Option, if◌then◌else◌}
use Rattle.std.specs.Map.{lookup}
use Rattle.tx_eqtb.specs.declared.addr.Addr.{Addr}
use Rattle.tx_eqtb.specs.contracts.addr.AddrPartialEq.TheImpl as addresses

-- whether two addresses are the same
abbrev pub same : Addr → Addr → Bool
same = addresses.ghosts.eq

-- what a list of entries has at an address
abbrev pub entry_at : {X : Type 0} → List (Addr × X) → Addr → Option X
entry_at entries at = lookup (same at) entries

-- the function f, but with x at this address
abbrev pub update : {X : Type 0} → (Addr → X) → Addr → X → Addr → X
update f at x q = if same at q then x else f q
