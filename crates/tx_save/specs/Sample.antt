-- A small save stack, for the examples.
use Rattle.std.specs.Prelude.{ℕ, List, [], ◌∷◌, pos, map}
use Rattle.tx_eqtb.specs.declared.addr.Addr.{Addr}
use Rattle.tx_eqtb.specs.declared.addr.AddrKind.TheVariants as addr_kind
use Rattle.tx_eqtb.specs.declared.meaning.Meaning.{Meaning}
use Rattle.tx_eqtb.specs.declared.meaning.Meaning.TheVariants as meaning
use Rattle.tx_eqtb.specs.declared.meaning.Old.TheVariants as old
use Rattle.tx_eqtb.specs.Addresses.{update}
use Rattle.tx_eqtb.specs.Meanings.{Map, meanings}
use Rattle.tx_save.specs.declared.group.Group.{Group}
use Rattle.tx_save.specs.declared.group.GroupKind.TheVariants as kind
use Rattle.tx_save.specs.declared.save.Save.{Save}
use Rattle.tx_save.specs.declared.save.Save.TheVariants as save
use Rattle.tx_save.specs.Saves.{below}

-- a count register
abbrev pub count : ℕ → Addr
count n = record { kind = addr_kind.Count; no = n }

-- a group without tokens
abbrev pub simple : Group
simple = record { kind = kind.Simple; after = [] }

-- two groups, where the outer one set count register 1 and the inner one set it again
abbrev pub stack : List (Save ℕ)
stack = save.Saved (count 1) (old.Moved (meaning.Int (pos 4))) 2 ∷ save.Mark simple ∷ save.Saved (count 1) old.Frozen 1 ∷ save.Mark simple ∷ []

-- the map before the region, and the one now
abbrev pub first : Map ℕ
first = meanings []

abbrev pub now : Map ℕ
now = update first (count 1) (meaning.Int (pos 8))

-- what count register 1 is at the levels outside, where its present meaning was assigned at this level
abbrev pub outside_at : ℕ → List (Meaning ℕ)
outside_at level = map (λ f. f (count 1)) (below first now (λ q. level) stack)
