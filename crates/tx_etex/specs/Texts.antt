-- Lists of tokens as the tokens of their text.
use Rattle.std.specs.Prelude.{ℕ, ◌==◌, List, [], ◌∷◌, ◌++◌, map, if◌then◌else◌}
use Rattle.std.specs.Fmt.{decimal}
use Rattle.tx_model.specs.declared.category.Cat.TheVariants as cat
use Rattle.tx_model.specs.Bytes.{blank}
use Rattle.tx_model.specs.Shown.{is_parameter}
use Rattle.tx_tok.specs.declared.tok.Tok.{Tok}
use Rattle.tx_tok.specs.declared.tok.Tok.TheVariants as tok

-- a byte of a text as a token: of category 12, or 10 where it is a space
abbrev pub text_token : ℕ → Tok
text_token b = if b == blank then tok.Char cat.Space b else tok.Char cat.Other b

-- the bytes of a token in the text of a list, where a name has this text there
abbrev pub bytes_in_list : List ℕ → Tok → List ℕ
bytes_in_list name (tok.Char c b) = if is_parameter c then b ∷ b ∷ [] else b ∷ []
bytes_in_list name (tok.Name n) = name
bytes_in_list name (tok.Active b) = b ∷ []
bytes_in_list name (tok.Param n) = 35 ∷ decimal n
bytes_in_list name tok.Stop = []

-- the tokens of a list's text, where the names have these texts
abbrev pub detokenized : List Tok → List (List ℕ) → List Tok
detokenized [] names = []
detokenized (token ∷ tokens) [] = []
detokenized (token ∷ tokens) (name ∷ names) = map text_token (bytes_in_list name token) ++ detokenized tokens names
