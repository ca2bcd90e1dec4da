-- the letters so far begin the name
use Rattle.std.proofs.Common.{◌≡◌, ℕ, ◌-◌, ◌≤◌, List, ◌∷◌, ◌++◌, length, drop}
use Rattle.tx_model.specs.declared.category.Cat.{Cat}
use Rattle.tx_model.specs.Scanner.{letters_in}
use Rattle.tx_scan.specs.declared.notation.Front.{Front}
use Rattle.tx_scan.specs.Scans.{category_by}
use Rattle.tx_scan.proofs.line.letters.Given as goal

pub record BeginName (cats : ℕ → Cat) (line : List ℕ) (first : Front) (text : List ℕ) (at : ℕ) : Type 0 where
  pub within : at ≤ length line
  pub letters : first.byte ∷ (letters_in cats (drop first.behind line)).letters ≡ text ++ (letters_in cats (drop at line)).letters
  pub behind : (letters_in cats (drop first.behind line)).behind ≡ (letters_in cats (drop at line)).behind

abbrev pub invariant-letters : goal.invariant-letters
invariant-letters l = BeginName (category_by l.cats) l.line l.fn.first l.text.items l.at

abbrev pub decreases-letters : goal.decreases-letters
decreases-letters l = length l.line - l.at
