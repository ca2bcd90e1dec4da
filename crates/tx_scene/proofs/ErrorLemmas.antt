-- The two lines of an error.
use Rattle.std.proofs.Common.{◌≡◌, ℤ, ℕ, List, ◌++◌, sym, ap, ◌∙◌, append_assoc}

-- two lines that join a log one by one join it together
pub lines-joined : (line : ℤ → List ℕ → List ℕ) (log mid new : List ℕ) (n m : ℤ) (first second one two : List ℕ) → mid ≡ log ++ line n first → new ≡ mid ++ line n second → first ≡ one → second ≡ two → n ≡ m → log ++ (line m one ++ line m two) ≡ new
lines-joined line log mid new n m first second one two mid_is new_is one_is two_is same =
    sym (new_is ∙ ap (λ l. l ++ line n second) mid_is ∙ (λ i. (log ++ line (same i) (one_is i)) ++ line (same i) (two_is i)) ∙ append_assoc log (line m one) (line m two))
