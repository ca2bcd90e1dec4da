-- What arithmetic does with each part of a value.
use Rattle.std.specs.Prelude.{◌≢◌, ℤ, pos, ◌*ℤ◌, Option}
use Rattle.std.specs.Option.{option_map}
use Rattle.tx_num.specs.Ranges.{dimension}
use Rattle.tx_private.specs.Arithmetic as private
use Rattle.tx_private.specs.Arithmetic.{cut_quotient}
use Rattle.tx_assign.specs.declared.part.Part.{Part}
use Rattle.tx_assign.specs.declared.change.Change.{Change}
use Rattle.tx_assign.specs.declared.change.Change.TheVariants as change

-- what a part of a value becomes
abbrev pub change_of : Change → ℤ → ℤ
change_of (change.Times n) v = v *ℤ n
change_of (change.Over n) v = cut_quotient v n

-- nothing is divided by 0
abbrev pub IsLawful : Change → Type 0
IsLawful (change.Times n) = Unit {0}
IsLawful (change.Over n) = n ≢ pos 0

-- an amount of an order of infinity as the definitions have it
abbrev pub part_in : Part → private.Part
part_in p = record { amount = p.amount; infinity = p.infinity }

-- an amount, where it is a dimension
abbrev pub part_in_range : private.Part → Option private.Part
part_in_range p = option_map (λ d. p) (dimension p.amount)
