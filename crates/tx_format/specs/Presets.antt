-- The state that a preset is.
use Rattle.tx_format.specs.declared.preset.Preset.{Preset}
use Rattle.tx_format.specs.declared.preset.Preset.TheVariants as preset

-- what differs between the two states
abbrev pub by_preset : {X : Type 0} → X → X → Preset → X
by_preset at_start in_bare preset.Start = at_start
by_preset at_start in_bare preset.Bare = in_bare
