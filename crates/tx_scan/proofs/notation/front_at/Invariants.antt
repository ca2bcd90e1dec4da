-- the notations so far stand for the same byte
use Rattle.std.proofs.Common.{◌≡◌, ◌-◌, ◌<◌, ◌≤◌, ℕ, List, length, drop}
use Rattle.tx_model.specs.declared.category.Cat.{Cat}
use Rattle.tx_model.specs.Scanner.{fronted}
use Rattle.tx_scan.specs.declared.notation.Front.{Front}
use Rattle.tx_scan.specs.Scans.{category_by, from_front}
use Rattle.tx_scan.proofs.notation.front_at.Given as goal

pub record StandsFor (cats : ℕ → Cat) (line : List ℕ) (at : ℕ) (front : Front) : Type 0 where
  pub above : at < front.behind
  pub within : front.behind ≤ length line
  pub same : fronted cats (drop at line) ≡ fronted cats (from_front line front)

abbrev pub invariant-notations : goal.invariant-notations
invariant-notations l = StandsFor (category_by l.cats) l.line l.at l.front

abbrev pub decreases-notations : goal.decreases-notations
decreases-notations l = length l.line - l.front.behind
