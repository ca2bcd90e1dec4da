-- what stands next after the lines so far is what stands next
use Rattle.std.proofs.Common.{◌≡◌, ℕ, ◌-◌, ◌<◌, ◌≤◌, ◌^◌, List, length, drop}
use Rattle.tx_model.specs.declared.category.Cat.{Cat}
use Rattle.std.specs.Option.{option_to_list}
use Rattle.tx_model.specs.Lines.{lines_of}
use Rattle.tx_model.specs.Scanner.{scanned_from, LineUsed}
use Rattle.tx_scan.specs.Scans.{category_by}
use Rattle.tx_scan.proofs.later.in_lines.Given as goal

pub record GoesOn (cats : ℕ → Cat) (ending : List ℕ) (later : List ℕ) (first at number : ℕ) : Type 0 where
  pub within : at ≤ length later
  pub small : number < 2 ^ 31
  pub same : scanned_from cats ending number LineUsed (lines_of (drop at later)) ≡ scanned_from cats ending first LineUsed (lines_of later)

abbrev pub invariant-lines : goal.invariant-lines
invariant-lines l = GoesOn (category_by l.cats) (option_to_list l.ending) l.later l.initial.number l.at l.number

abbrev pub decreases-lines : goal.decreases-lines
decreases-lines l = length l.later - l.at
