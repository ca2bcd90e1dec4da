-- The tokens of a list's text are the bytes that TeX prints of the list.
use Rattle.std.proofs.Common.{◌≡◌, ℕ, ℤ, List, [], ◌∷◌, ◌++◌, map, refl, sym, ap, ◌∙◌}
use Rattle.std.proofs.lemmas.List.{map-append}
use Rattle.std.specs.List.{flat_map}
use Rattle.tx_model.specs.declared.category.Cat.{Cat}
use Rattle.tx_model.specs.Shown.{shown_in_list}
use Rattle.tx_tok.specs.declared.tok.Tok.{Tok}
use Rattle.tx_tok.specs.declared.tok.Tok.TheVariants as tok
use Rattle.tx_tok.specs.Tokens.{token_in, tokens_in}
use Rattle.tx_etex.specs.Texts.{text_token, bytes_in_list, detokenized}
use Rattle.tx_etex.specs.Laws.{IsTextOf, DetokenizedIsShown}

one-is-shown : (cats : ℕ → Cat) (escape : ℤ) (naming : ℕ → List ℕ) (token : Tok) (text : List ℕ) →
    IsTextOf cats escape naming token text → bytes_in_list text token ≡ shown_in_list cats escape (token_in naming token)
one-is-shown cats escape naming (tok.Char c b) text h = refl
one-is-shown cats escape naming (tok.Name n) text h = h
one-is-shown cats escape naming (tok.Active b) text h = refl
one-is-shown cats escape naming (tok.Param n) text h = refl
one-is-shown cats escape naming tok.Stop text h = refl

pub detokenized-is-shown : DetokenizedIsShown
detokenized-is-shown cats escape naming [] [] h = refl
detokenized-is-shown cats escape naming [] (text ∷ texts) h = absurd h
detokenized-is-shown cats escape naming (token ∷ tokens) [] h = absurd h
detokenized-is-shown cats escape naming (token ∷ tokens) (text ∷ texts) h =
    let one = one-is-shown cats escape naming token text h.0 in
    let rest = detokenized-is-shown cats escape naming tokens texts h.1 in
    let shown = shown_in_list cats escape in
    ap (λ xs. map text_token xs ++ detokenized tokens texts) one
    ∙ ap (λ xs. map text_token (shown (token_in naming token)) ++ xs) rest
    ∙ sym (map-append text_token (shown (token_in naming token)) (flat_map shown (tokens_in naming tokens)))
