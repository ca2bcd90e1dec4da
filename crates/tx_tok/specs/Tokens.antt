-- Tokens as the definitions have them, where a name is its text.
use Rattle.std.specs.Prelude.{ℕ, List, map}
use Rattle.tx_model.specs.Tokens as private
use Rattle.tx_tok.specs.declared.tok.Tok.{Tok}
use Rattle.tx_tok.specs.declared.tok.Tok.TheVariants as tok

-- the token, where names have these texts
abbrev pub token_in : (ℕ → List ℕ) → Tok → private.Token
token_in naming (tok.Char c b) = private.Char c b
token_in naming (tok.Name n) = private.Name (naming n)
token_in naming (tok.Active b) = private.Active b
token_in naming (tok.Param n) = private.Param n
token_in naming tok.Stop = private.Stop

abbrev pub tokens_in : (ℕ → List ℕ) → List Tok → List private.Token
tokens_in naming tokens = map (token_in naming) tokens

-- the token, where its name, if it is one, has this text
abbrev pub token_with : List ℕ → Tok → private.Token
token_with name t = token_in (λ n. name) t
