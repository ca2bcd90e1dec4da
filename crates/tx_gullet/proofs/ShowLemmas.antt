-- Lists of tokens, printed token by token.
use Rattle.std.proofs.Common.{◌≡◌, ℕ, zero, suc, ◌+◌, ◌<◌, List, [], ◌∷◌, ◌++◌, length, drop, slice_index_or, refl, sym, ◌∙◌, ap, arith}
use Rattle.std.specs.List.{flat_map}
use Rattle.std.proofs.lemmas.List.{append_assoc}
use Rattle.tx_model.specs.Tokens.{Token}
use Rattle.tx_tok.specs.declared.tok.Tok.{Tok}
use Rattle.tx_tok.specs.Tokens.{token_in, tokens_in}
use Rattle.tx_names.specs.Names.{Naming}

-- what is left of a list begins with the element at that place
pub drop-at : {X : Type 0} (xs : List X) (i : ℕ) (d : X) → i < length xs → drop i xs ≡ slice_index_or xs i d ∷ drop (i + 1) xs
drop-at [] i d inside =
    let none : ⊥ = omega arith in
    absurd none
drop-at (x ∷ xs) zero d inside = refl
drop-at (x ∷ xs) (suc i) d inside =
    let less : i < length xs = omega arith in
    let e : suc (i + 1) ≡ suc i + 1 = omega arith in
    drop-at xs i d less ∙ ap (λ k. slice_index_or xs i d ∷ drop k (x ∷ xs)) e

pub list-printed : (f : Token → List ℕ) (naming : Naming) (tokens : List Tok) (i : ℕ) (d : Tok) (out new : List ℕ) → i < length tokens → new ≡ out ++ f (token_in naming (slice_index_or tokens i d)) → out ++ flat_map f (tokens_in naming (drop i tokens)) ≡ flat_map f (tokens_in naming tokens) → new ++ flat_map f (tokens_in naming (drop (i + 1) tokens)) ≡ flat_map f (tokens_in naming tokens)
list-printed f naming tokens i d out new inside e printed =
    ap (λ xs. xs ++ flat_map f (tokens_in naming (drop (i + 1) tokens))) e
    ∙ append_assoc out (f (token_in naming (slice_index_or tokens i d))) (flat_map f (tokens_in naming (drop (i + 1) tokens)))
    ∙ ap (λ ts. out ++ flat_map f (tokens_in naming ts)) (sym (drop-at tokens i d inside))
    ∙ printed
