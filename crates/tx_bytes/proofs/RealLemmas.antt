-- Writing further.
use Rattle.std.proofs.Common.{◌≡◌, ℕ, ◌-◌, List, ◌++◌, length, take, drop, Option, None, Some, sym, ap, ◌∙◌, append_assoc}
use Rattle.std.specs.Io.KnownBytes.{Appends}
use Rattle.std.proofs.lemmas.List.{take-append-drop, take_rest}

-- what was taken by two writes is both parts
Appends-trans : (old mid new : Option (List ℕ)) (front more : List ℕ) → Appends old mid front → Appends mid new more → Appends old new (front ++ more)
Appends-trans None mid new front more first second = tt
Appends-trans (Some xs) None new front more first second = absurd first
Appends-trans (Some xs) (Some ys) None front more first second = absurd second
Appends-trans (Some xs) (Some ys) (Some zs) front more first second =
    second ∙ ap (λ l. l ++ more) first ∙ append_assoc xs front more

pub wrote_more : (old mid new : Option (List ℕ)) (bytes front rest : List ℕ) (n : ℕ) → bytes ≡ front ++ rest → Appends old mid front → Appends mid new (take n rest) → (taken : List ℕ) × (bytes ≡ taken ++ take (length rest - n) (drop n rest)) × Appends old new taken
wrote_more old mid new bytes front rest n parts first second = (
  front ++ take n rest,
  parts ∙ ap (λ l. front ++ l) (sym (take-append-drop n rest) ∙ ap (λ l. take n rest ++ l) (sym (take_rest rest n))) ∙ sym (append_assoc front (take n rest) (take (length rest - n) (drop n rest))),
  Appends-trans old mid new front (take n rest) first second,
)
