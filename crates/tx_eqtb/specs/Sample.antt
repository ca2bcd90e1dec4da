-- A small table, for the examples.
use Rattle.std.specs.Prelude.{ℕ, [], ◌∷◌, pos}
use Rattle.tx_eqtb.specs.declared.addr.Addr.{Addr}
use Rattle.tx_eqtb.specs.declared.addr.AddrKind.TheVariants as kind
use Rattle.tx_eqtb.specs.declared.meaning.Meaning.TheVariants as meaning
use Rattle.tx_eqtb.specs.declared.meaning.Before.TheVariants as was
use Rattle.tx_eqtb.specs.Meanings.{Map, meanings}
use Rattle.tx_eqtb.specs.Tables.{Table}

-- a count register
abbrev pub count : ℕ → Addr
count n = record { kind = kind.Count; no = n }

-- 7 in count register 1
abbrev pub frozen : Map ℕ
frozen = meanings ((count 1, meaning.Int (pos 7)) ∷ [])

-- count registers 1 and 2 were set by the region, and 3 before it
abbrev pub sample : Table ℕ
sample = record {
  entries = (count 1, meaning.Int (pos 8)) ∷ (count 2, meaning.Int (pos 5)) ∷ (count 3, meaning.Int (pos 6)) ∷ [];
  journal = (count 1, was.Frozen) ∷ (count 2, was.Kept (meaning.Int (pos 4))) ∷ [];
}
