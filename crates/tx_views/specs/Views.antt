-- How the numbers of a session are read.
use Rattle.std.specs.Prelude.{◌≡◌, ℕ, List, []}
use Rattle.tx_model.specs.Tokens as private
use Rattle.tx_tok.specs.declared.tok.Tok.{Tok}
use Rattle.tx_tok.specs.declared.tok.ListRef.{ListRef}
use Rattle.tx_tok.specs.declared.tok.ListRef.TheVariants as list
use Rattle.tx_tok.specs.Tokens.{token_in, tokens_in}

-- the text of the name with each number, the number of the name with each text, and the content of each list
pub record View : Type 0 where
  pub naming : ℕ → List ℕ
  pub number : List ℕ → ℕ
  pub content : ListRef → List Tok

-- the number of a number's text is that number, so different numbers have different texts
pub record IsView (view : View) : Type 0 where
  pub apart : (n : ℕ) → view.number (view.naming n) ≡ n
  pub empty : view.content list.Empty ≡ []

-- tokens, and lists, as the definitions have them
abbrev pub viewed : View → Tok → private.Token
viewed view t = token_in view.naming t

abbrev pub all_viewed : View → List Tok → List private.Token
all_viewed view tokens = tokens_in view.naming tokens

abbrev pub list_in : View → ListRef → List private.Token
list_in view reference = all_viewed view (view.content reference)
