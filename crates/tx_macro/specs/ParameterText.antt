-- The parameter texts that a definition can give. The TeXbook, chapter 20.
use Rattle.std.specs.Prelude.{ℕ, ◌+◌, ◌<◌, ◌==◌, Bool, true, not, ◌&&◌, ◌||◌, IsTrue, List, [], ◌∷◌, length, nat_le}
use Rattle.tx_tok.specs.declared.tok.Tok.{Tok}
use Rattle.tx_tok.specs.declared.tok.Tok.TheVariants as tok
use Rattle.tx_macro.specs.Outcome.{is_begin, is_end}

-- The parameters count up from this number to 9 at the most, and braces don't stand between them but
-- for a left brace as the last token.
abbrev pub is_text_from : ℕ → List Tok → Bool
is_text_from n [] = true
is_text_from n (tok.Param k ∷ params) = k == n && nat_le n 9 && is_text_from (n + 1) params
is_text_from n (t ∷ params) =
    not (is_end t) && (not (is_begin t) || length params == 0) && is_text_from n params

-- a parameter text that is not empty
abbrev pub IsParameterText : List Tok → Type 0
IsParameterText params = IsTrue (is_text_from 1 params) × (0 < length params)

-- each parameter in a body is one of a parameter text with so many
abbrev pub has_parameters_to : ℕ → List Tok → Bool
has_parameters_to count [] = true
has_parameters_to count (tok.Param k ∷ body) = nat_le 1 k && nat_le k count && has_parameters_to count body
has_parameters_to count (t ∷ body) = has_parameters_to count body
