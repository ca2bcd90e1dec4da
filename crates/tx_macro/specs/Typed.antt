-- Calls as they are typed, a token for each byte of a text.
use Rattle.std.specs.Prelude.{ℕ, ◌==◌, if◌then◌else◌, List, [], ◌∷◌, map}
use Rattle.tx_model.specs.declared.category.Cat.{Cat}
use Rattle.tx_model.specs.declared.category.Cat.TheVariants as cat
use Rattle.tx_tok.specs.declared.tok.Tok.{Tok}
use Rattle.tx_tok.specs.declared.tok.Tok.TheVariants as tok

-- braces are of categories 1 and 2, the blank is of 10, and the others are of 11
abbrev pub category : ℕ → Cat
category b = if b == 123 then cat.Begin else if b == 125 then cat.End else if b == 32 then cat.Space else cat.Letter

abbrev pub typed : List ℕ → List Tok
typed text = map (λ b. tok.Char (category b) b) text

-- the name \par
abbrev pub par : Tok
par = tok.Name 0

-- one parameter and a delimiter
abbrev pub delimited_by : List ℕ → List Tok
delimited_by text = tok.Param 1 ∷ typed text

-- nine parameters
abbrev pub nine : List Tok
nine =
    tok.Param 1 ∷ tok.Param 2 ∷ tok.Param 3 ∷ tok.Param 4 ∷ tok.Param 5 ∷ tok.Param 6 ∷ tok.Param 7 ∷ tok.Param 8 ∷ tok.Param 9 ∷ []
