-- Whole maps over a frozen one.
use Rattle.std.specs.Prelude.{ℕ, ℤ, List, [], ◌∷◌, ◌++◌, Option, None, Some, if◌then◌else◌}
use Rattle.std.specs.List.{fold}
use Rattle.tx_eqtb.specs.declared.addr.Addr.{Addr}
use Rattle.tx_eqtb.specs.declared.meaning.Meaning.{Meaning}
use Rattle.tx_eqtb.specs.declared.meaning.Meaning.TheVariants as meaning
use Rattle.tx_eqtb.specs.Addresses.{same, update}
use Rattle.tx_eqtb.specs.Meanings.{Map}

-- a map, as the assignments that lead to it, the oldest first
abbrev pub Whole : Type 0
Whole = List (Addr × ℤ)

-- the map to which they lead from a frozen one
abbrev pub leads : Whole → Map ℕ → Map ℕ
leads whole frozen = fold (λ map e. update map e.0 (meaning.Int e.1)) frozen whole

-- one assignment more
abbrev pub changed : Whole → Addr → ℤ → Whole
changed whole at n = whole ++ (at, n) ∷ []

-- the integer that the last assignment to an address gave it
abbrev pub last_given : Addr → Whole → Option ℤ
last_given at whole = fold (λ found e. if same e.0 at then Some e.1 else found) None whole

-- the integer that an address means
abbrev pub integer_of : Meaning ℕ → Option ℤ
integer_of (meaning.Int n) = Some n
integer_of _ = None
