-- The levels at which meanings were assigned.
use Rattle.std.specs.Prelude.{ℕ, List, unwrap_or}
use Rattle.tx_eqtb.specs.declared.addr.Addr.{Addr}
use Rattle.tx_eqtb.specs.Addresses.{entry_at}

-- the level of an address: 1 where its meaning is global or no group is open
abbrev pub level_at : List (Addr × ℕ) → Addr → ℕ
level_at levels at = unwrap_or (entry_at levels at) 1
