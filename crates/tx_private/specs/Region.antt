-- A region: what the private TeX answers to a text and a budget.
use Rattle.std.specs.Prelude.{ℕ, Bool, ◌≡◌, List, [], ◌∷◌, ◌++◌, Option, None, Some}
use Rattle.std.specs.Option.{option_map}
use Rattle.tx_model.specs.declared.reply.Status.{Status}
use Rattle.tx_model.specs.declared.reply.Status.TheVariants as status
use Rattle.tx_model.specs.Scanner.{opened}
use Rattle.tx_model.specs.Pending.{Text}
use Rattle.tx_private.specs.Errors.{error_lines}
use Rattle.tx_private.specs.Meanings.{Map}
use Rattle.tx_private.specs.World.{World, Output}
use Rattle.tx_private.specs.Readings.{Control}
use Rattle.tx_private.specs.Reads.{Result, Gave, Failed, Spent, Reads, reads}

-- what comes of a region
pub record Outcome : Type 0 where
  pub status : Status
  pub steps : ℕ
  pub pages : ℕ
  pub dvi : List ℕ
  pub log : List ℕ

abbrev pub outcome_by : Status → Output → Outcome
outcome_by s output = record { status = s; steps = output.steps; pages = output.pages; dvi = output.dvi; log = output.log }

abbrev pub with_log : List ℕ → Output → Output
with_log lines output = record output { log = output.log ++ lines }

-- a failed region's log ends with the lines of its error
abbrev pub outcome_of : Result → Outcome
outcome_of (Gave value w) = outcome_by status.Done w.output
outcome_of (Failed f) = outcome_by status.Fail (with_log (error_lines f.newline_char f.error f.line) f.output)
outcome_of (Spent output) = outcome_by status.Spent output

-- The state of a session: what everything means, the names that the format has, and those beside them.
pub record State : Type 0 where
  pub map : Map
  pub frozen : List ℕ → Bool
  pub names : List (List ℕ)

-- the world in which a region begins, or a preamble
abbrev pub started : State → Bool → List ℕ → ℕ → World
started s preamble text budget = record {
  pending = Text (opened text) ∷ [];
  environment = record { groups = []; outside = s.map };
  budget = budget;
  kept = None;
  preamble = preamble;
  depth = 0;
  stored = 0;
  frozen = s.frozen;
  names = s.names;
  output = record { steps = 0; pages = 0; dvi = []; log = [] };
}

-- the outcome, if it takes at most so many moves
unfoldable pub outcome_in : ℕ → State → Bool → List ℕ → ℕ → Option Outcome
outcome_in moves s preamble text budget = option_map outcome_of (reads moves Control [] (started s preamble text budget))

-- the state that is left: a region that fails or is spent gives back the one from before it
abbrev pub left_by : State → Result → State
left_by s (Gave value w) = record s { map = w.environment.outside; names = w.names }
left_by s (Failed f) = s
left_by s (Spent output) = s

-- From this state the text with this budget, as a preamble or not, comes to this outcome and leaves this state.
pub record Region (s : State) (preamble : Bool) (text : List ℕ) (budget : ℕ) (outcome : Outcome) (after : State) : Type 0 where
  pub result : Result
  pub run : Reads Control [] (started s preamble text budget) result
  pub is : outcome_of result ≡ outcome
  pub leaves : left_by s result ≡ after
