-- The state with which sessions begin, by the files of the command line.
use Rattle.std.specs.Prelude.{◌≡◌, ℕ, List, [], ◌∷◌, Result, Ok, Err}
use Rattle.tx_bytes.specs.Shelves.{Named}
use Rattle.tx_model.specs.declared.reply.Status.{Status}
use Rattle.tx_model.specs.declared.reply.Status.TheVariants as status
use Rattle.tx_model.specs.Environment.{Map}
use Rattle.tx_model.specs.Bare.{bare_map}
use Rattle.tx_model.specs.Region.{Outcome, Region}
use Rattle.tx_gullet.specs.States.{State, IsFormat}
use Rattle.tx_region.specs.declared.frozen.PreFault.{PreFault}
use Rattle.tx_region.specs.declared.frozen.PreFault.TheVariants as fault

-- so many steps a preamble may spend
abbrev pub preamble_budget : ℕ
preamble_budget = 100000000

-- a preamble of these bytes, run as one region from the state BARE, ends with this status and leaves this
abbrev pub Preamble : List ℕ → Status → Outcome → Map → Type 0
Preamble content s outcome after = (outcome.status ≡ s) × Region bare_map content preamble_budget outcome after

-- Sessions begin in the state that the preamble, the first file, leaves if it is done; without a file in
-- the state BARE.
abbrev pub FormatOf : List Named → Map → Type 0
FormatOf [] map = map ≡ bare_map
FormatOf (file ∷ files) map = (outcome : Outcome) × Preamble file.content status.Done outcome map

-- the preamble ends with this status, this log and these steps
abbrev pub EndsPreamble : List ℕ → Status → List ℕ → ℕ → Type 0
EndsPreamble content s log steps =
    (outcome : Outcome) × ((after : Map) × (outcome.log ≡ log) × (outcome.steps ≡ steps) × Preamble content s outcome after)

-- After a preamble of these bytes was run.
abbrev pub AfterContent : List ℕ → Result State PreFault → Type 0
AfterContent content (Ok format) = (map : Map) × ((outcome : Outcome) × Preamble content status.Done outcome map) × IsFormat format map
AfterContent content (Err (fault.Fail log steps)) = EndsPreamble content status.Fail log steps
AfterContent content (Err (fault.Spent log steps)) = EndsPreamble content status.Spent log steps
AfterContent content (Err fault.Memory) = Unit {0}

-- After the format was made of these files.
abbrev pub AfterPreamble : List Named → Result State PreFault → Type 0
AfterPreamble [] (Ok format) = (map : Map) × FormatOf [] map × IsFormat format map
AfterPreamble [] (Err fault.Memory) = Unit {0}
AfterPreamble [] (Err _) = ⊥
AfterPreamble (file ∷ files) result = AfterContent file.content result
