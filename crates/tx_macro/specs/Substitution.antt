-- A body with arguments in the place of its parameters. The TeXbook, chapter 20.
use Rattle.std.specs.Prelude.{◌-◌, List, [], ◌∷◌, ◌++◌, slice_index_or}
use Rattle.tx_tok.specs.declared.tok.Tok.{Tok}
use Rattle.tx_tok.specs.declared.tok.Tok.TheVariants as tok

abbrev pub substituted : List (List Tok) → List Tok → List Tok
substituted arguments [] = []
substituted arguments (tok.Param k ∷ body) = slice_index_or arguments (k - 1) [] ++ substituted arguments body
substituted arguments (t ∷ body) = t ∷ substituted arguments body
