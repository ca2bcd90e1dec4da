-- the bytes so far give nothing
use Rattle.std.proofs.Common.{◌≡◌, ℕ, ◌-◌, ◌≤◌, List, length, drop}
use Rattle.tx_model.specs.declared.category.Cat.{Cat}
use Rattle.tx_model.specs.declared.category.LineState.{LineState}
use Rattle.tx_model.specs.Scanner.{found_in}
use Rattle.tx_scan.specs.Scans.{category_by}
use Rattle.tx_scan.proofs.line.giving.Given as goal

pub record GiveNothing (cats : ℕ → Cat) (state : LineState) (line : List ℕ) (read at : ℕ) : Type 0 where
  pub above : read ≤ at
  pub within : at ≤ length line
  pub same : found_in cats state (drop read line) ≡ found_in cats state (drop at line)

abbrev pub invariant-bytes : goal.invariant-bytes
invariant-bytes l = GiveNothing (category_by l.cats) l.state l.line l.read l.at

abbrev pub decreases-bytes : goal.decreases-bytes
decreases-bytes l = length l.line - l.at
