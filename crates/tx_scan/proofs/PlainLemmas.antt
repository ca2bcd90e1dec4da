-- The plain reading of a line.
use Rattle.std.proofs.Common.{◌≡◌, ℕ, ◌-◌, ◌<◌, ◌≤◌, List, [], ◌∷◌, length, take, drop, get_or, Some, sym, ◌∙◌, ap, arith}
use Rattle.std.proofs.lemmas.List.{length-drop}
use Rattle.tx_model.specs.declared.category.Cat.{Cat}
use Rattle.tx_model.specs.Scanner.{noted, fronted}
use Rattle.tx_scan.proofs.LineLemmas.{rest-of}
use Rattle.tx_scan.proofs.Scanning.{fronted-noted, fronted-short}

first-and-rest : (s : List ℕ) → 1 ≤ length s → s ≡ get_or s 0 0 ∷ take (length s - 1) (drop 1 s)
first-and-rest [] some = absurd (omega arith)
first-and-rest (b ∷ s) some = ap (λ l. b ∷ l) (sym (rest-of (b ∷ s) 1))

-- the first byte of a front, and the others, as a pattern takes them
pub front-split : (cats : ℕ → Cat) (line s front : List ℕ) → s ≡ front → front ≡ fronted cats line → 1 ≤ length s → fronted cats line ≡ get_or s 0 0 ∷ take (length s - 1) (drop 1 s)
front-split cats line s front is made some = sym made ∙ sym is ∙ first-and-rest s some

pub rest-short : (cats : ℕ → Cat) (line s front : List ℕ) → s ≡ front → front ≡ fronted cats line → 1 ≤ length s → length (take (length s - 1) (drop 1 s)) < length line
rest-short cats line s front is made some =
    rw (rest-of s 1) (omega (arith, length-drop 1 s, ap length (is ∙ made), fronted-short cats line))

-- what stands for a line is fronted as the line is
pub shorter-fronted : (cats : ℕ → Cat) (line s stands : List ℕ) → 1 ≤ length line → noted cats (get_or line 0 0 ∷ drop 1 line) ≡ Some stands → s ≡ stands → fronted cats s ≡ fronted cats line
shorter-fronted cats [] s stands some e is = absurd (omega arith)
shorter-fronted cats (b ∷ line) s stands some e is = ap (fronted cats) is ∙ sym (fronted-noted cats (b ∷ line) stands e)
