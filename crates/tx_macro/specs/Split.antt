-- How a call's tokens split into delimiters and arguments. The TeXbook, chapter 20.
use Rattle.std.specs.Prelude.{◌≡◌, ℕ, ◌==◌, Bool, true, false, not, ◌&&◌, ◌||◌, IsTrue, List, [], ◌∷◌, ◌++◌}
use Rattle.tx_tok.specs.declared.tok.Tok.{Tok}
use Rattle.tx_macro.specs.Outcome.{same, front, behind, is_begin, is_end, is_blank, level_after, is_group, stripped}

-- Each brace closes within these tokens, where so many groups are open before them.
abbrev pub is_balanced : ℕ → List Tok → Bool
is_balanced depth [] = depth == 0
is_balanced depth (t ∷ tokens) = not (depth == 0 && is_end t) && is_balanced (level_after depth t) tokens

-- The tokens of a delimited argument as it stood, its delimiter and what follows that: they are
-- balanced, and the shortest such, as balanced tokens at their front that the delimiter follows are
-- all of them.
pub record IsDelimited (delimiter raw later : List Tok) : Type 0 where
  pub balanced : IsTrue (is_balanced 0 raw)
  pub shortest : (first more after : List Tok) →
      raw ≡ first ++ more → IsTrue (is_balanced 0 first) → more ++ delimiter ++ later ≡ delimiter ++ after → more ≡ []

abbrev pub are_blank : List Tok → Bool
are_blank [] = true
are_blank (t ∷ tokens) = is_blank t && are_blank tokens

-- one token that is no brace and no blank
abbrev pub is_single : List Tok → Bool
is_single (t ∷ []) = not (is_begin t) && not (is_end t) && not (is_blank t)
is_single _ = false

-- The tokens of an undelimited argument as it stood, and the argument: blanks, and then one token or
-- one group.
pub record IsUndelimited (raw argument : List Tok) : Type 0 where
  pub blanks : List Tok
  pub one : List Tok
  pub split : raw ≡ blanks ++ one
  pub blank : IsTrue (are_blank blanks)
  pub is_one : IsTrue (is_single one || is_group one)
  pub bare : argument ≡ stripped one

-- The tokens of an argument as it stood, before this delimiter and what follows it, and the argument.
abbrev pub IsArgument : List Tok → List Tok → List Tok → List Tok → Type 0
IsArgument [] raw argument later = IsUndelimited raw argument
IsArgument (p ∷ delimiter) raw argument later =
    IsDelimited (p ∷ delimiter) raw later × (argument ≡ stripped raw)

-- Tokens are the arguments as they stood, each with its delimiter, and then the rest.
abbrev pub AreArguments : List (List Tok) → List (List Tok) → List (List Tok) → List Tok → List Tok → Type 0
AreArguments [] [] [] tokens rest = tokens ≡ rest
AreArguments (delimiter ∷ delimiters) (raw ∷ raws) (argument ∷ arguments) tokens rest =
    (later : List Tok) × (tokens ≡ raw ++ delimiter ++ later) × IsArgument delimiter raw argument later × AreArguments delimiters raws arguments later rest
AreArguments _ _ _ _ _ = ⊥

-- Tokens are a call with these arguments, and then the rest: the first delimiter, and for each
-- parameter an argument as it stood and its delimiter.
pub record Splits (params : List Tok) (arguments : List (List Tok)) (tokens rest : List Tok) : Type 0 where
  pub raws : List (List Tok)
  pub later : List Tok
  pub first : tokens ≡ front params ++ later
  pub each : AreArguments (behind params) raws arguments later rest

-- Tokens can stand in an argument: they have `par` only if the macro is long.
abbrev pub can_stand : Bool → Tok → List Tok → Bool
can_stand long par [] = true
can_stand long par (t ∷ tokens) = (long || not (same t par)) && can_stand long par tokens

abbrev pub all_can_stand : Bool → Tok → List (List Tok) → Bool
all_can_stand long par [] = true
all_can_stand long par (raw ∷ raws) = can_stand long par raw && all_can_stand long par raws
