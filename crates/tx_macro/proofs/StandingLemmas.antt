-- When a delimiter stands.
use Rattle.std.proofs.Common.{◌≡◌, ◌<◌, ◌≤◌, true, false, ◌&&◌, List, [], ◌∷◌, ◌++◌, length, refl, arith}
use Rattle.std.proofs.lemmas.Grind.{common_steps}
use Rattle.tx_tok.specs.declared.tok.Tok.{Tok}
use Rattle.tx_macro.specs.Outcome.{same, Stands, Within, Differs, standing}
use Rattle.tx_macro.specs.Settling.{begins}

-- a delimiter doesn't begin with more tokens than it has
pub begins-longer : (delimiter tokens : List Tok) → length delimiter < length tokens → begins delimiter tokens ≡ false
begins-longer [] [] h = absurd (omega arith)
begins-longer [] (t ∷ tokens) h = refl
begins-longer (p ∷ delimiter) [] h = absurd (omega arith)
begins-longer (p ∷ delimiter) (t ∷ tokens) h =
    let inner : begins delimiter tokens ≡ false = begins-longer delimiter tokens (omega arith) in
    elim (same p t) as (λ b. (b && begins delimiter tokens) ≡ false) [ true ↦ inner | false ↦ refl ]

pub standing-differs : (delimiter tokens later : List Tok) → length tokens ≤ length delimiter → begins delimiter tokens ≡ false → standing delimiter (tokens ++ later) ≡ Differs
standing-differs delimiter [] later h e = cc
standing-differs [] (t ∷ tokens) later h e = absurd (omega arith)
standing-differs (p ∷ delimiter) (t ∷ tokens) later h e =
    let inner : begins delimiter tokens ≡ false → standing delimiter (tokens ++ later) ≡ Differs = λ f. standing-differs delimiter tokens later (omega arith) f in
    grind (arith, common_steps, inner)

pub standing-stands : (delimiter tokens later : List Tok) → length tokens ≡ length delimiter → begins delimiter tokens ≡ true → standing delimiter (tokens ++ later) ≡ Stands later
standing-stands [] [] later h e = refl
standing-stands (p ∷ delimiter) [] later h e = absurd (omega arith)
standing-stands [] (t ∷ tokens) later h e = absurd (omega arith)
standing-stands (p ∷ delimiter) (t ∷ tokens) later h e =
    let inner : begins delimiter tokens ≡ true → standing delimiter (tokens ++ later) ≡ Stands later = λ f. standing-stands delimiter tokens later (omega arith) f in
    grind (arith, common_steps, inner)

pub standing-within : (delimiter tokens : List Tok) → length tokens < length delimiter → begins delimiter tokens ≡ true → standing delimiter tokens ≡ Within
standing-within [] tokens h e = absurd (omega arith)
standing-within (p ∷ delimiter) [] h e = refl
standing-within (p ∷ delimiter) (t ∷ tokens) h e =
    let inner : begins delimiter tokens ≡ true → standing delimiter tokens ≡ Within = λ f. standing-within delimiter tokens (omega arith) f in
    grind (arith, common_steps, inner)
