-- The outcome of a region, as the definitions have it.
use Rattle.std.specs.Prelude.{Result, Ok, Err}
use Rattle.tx_model.specs.declared.reply.Status.TheVariants as status
use Rattle.tx_model.specs.Region.{Outcome as RegionOutcome}
use Rattle.tx_gullet.specs.declared.outcome.Outcome.{Outcome}
use Rattle.tx_gullet.specs.declared.outcome.Outcome.TheVariants as outcome

abbrev pub region_outcome : Outcome → RegionOutcome
region_outcome (outcome.Done o) = record { status = status.Done; steps = o.steps; pages = o.pages; dvi = o.dvi; log = o.log }
region_outcome (outcome.Fail o) = record { status = status.Fail; steps = o.steps; pages = o.pages; dvi = o.dvi; log = o.log }
region_outcome (outcome.Spent o) = record { status = status.Spent; steps = o.steps; pages = o.pages; dvi = o.dvi; log = o.log }

-- the region failed or was spent
abbrev pub IsUnfinished : Outcome → Type 0
IsUnfinished (outcome.Done o) = ⊥
IsUnfinished _ = Unit {0}

-- after these results the session has the state from before the region
abbrev pub IsGivenBack : {E : Type 0} → Result Outcome E → Type 0
IsGivenBack (Ok o) = IsUnfinished o
IsGivenBack (Err e) = Unit {0}
