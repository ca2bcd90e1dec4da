-- Where the delimiter of an argument may stand.
use Rattle.std.specs.Prelude.{◌≡◌, ◌+◌, ◌≤◌, ◌<◌, Bool, true, false, ◌&&◌, List, [], ◌∷◌, ◌++◌, length, take, drop}
use Rattle.tx_tok.specs.declared.tok.Tok.{Tok}
use Rattle.tx_macro.specs.declared.argument.Place.{Place}
use Rattle.tx_macro.specs.declared.rule.Rule.{Rule}
use Rattle.tx_macro.specs.Outcome.{delimited, same}

-- the delimiter begins with these tokens
abbrev pub begins : List Tok → List Tok → Bool
begins delimiter [] = true
begins [] (t ∷ tokens) = false
begins (p ∷ delimiter) (t ∷ tokens) = same p t && begins delimiter tokens

-- the tokens between two places are the argument's, and the delimiter may stand at the second
pub record Settles (rule : Rule) (delimiter taken : List Tok) (from to : Place) : Type 0 where
  pub says : (later : List Tok) → delimited rule delimiter from.depth (take from.known taken) (drop from.known taken ++ later) ≡ delimited rule delimiter to.depth (take to.known taken) (drop to.known taken ++ later)
  pub within : to.known ≤ length taken
  pub shallow : to.depth ≤ to.known
  pub short : length taken ≤ to.known + length delimiter
  pub stands : begins delimiter (drop to.known taken) ≡ true
  pub outside : to.known < length taken → to.depth ≡ 0
