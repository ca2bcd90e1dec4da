-- What a list of tokens is for a parameter text. The TeXbook, chapter 20.
use Rattle.std.specs.Prelude.{ℕ, ◌+◌, ◌-◌, ◌==◌, Bool, true, false, not, ◌&&◌, List, [], ◌∷◌, ◌++◌, length, take, drop, if◌then◌else◌}
use Rattle.tx_model.specs.declared.category.Cat.{Cat}
use Rattle.tx_model.specs.declared.category.Cat.TheVariants as cat
use Rattle.tx_tok.specs.declared.tok.Tok.{Tok}
use Rattle.tx_tok.specs.declared.tok.Tok.TheVariants as tok
use Rattle.tx_macro.specs.declared.rule.Misuse.{Misuse}
use Rattle.tx_macro.specs.declared.rule.Misuse.TheVariants.{NoMatch, ParEnded, ExtraBrace}
use Rattle.tx_macro.specs.declared.rule.Rule.{Rule}

-- the place of a category in their order
abbrev pub place : Cat → ℕ
place cat.Escape = 0
place cat.Begin = 1
place cat.End = 2
place cat.Math = 3
place cat.Tab = 4
place cat.LineEnd = 5
place cat.Parameter = 6
place cat.Superscript = 7
place cat.Subscript = 8
place cat.Ignored = 9
place cat.Space = 10
place cat.Letter = 11
place cat.Other = 12
place cat.Active = 13
place cat.Comment = 14
place cat.Invalid = 15

-- Delimiters are compared as tokens, a character with its category, and not by meaning.
abbrev pub same : Tok → Tok → Bool
same (tok.Char c b) (tok.Char d e) = place c == place d && b == e
same (tok.Name n) (tok.Name m) = n == m
same (tok.Active b) (tok.Active c) = b == c
same (tok.Param n) (tok.Param m) = n == m
same tok.Stop tok.Stop = true
same _ _ = false

-- What stands before the first parameter of a parameter text.
abbrev pub front : List Tok → List Tok
front [] = []
front (tok.Param n ∷ params) = []
front (t ∷ params) = t ∷ front params

-- What stands behind each parameter, up to the next one or the end.
abbrev pub behind : List Tok → List (List Tok)
behind [] = []
behind (tok.Param n ∷ params) = front params ∷ behind params
behind (t ∷ params) = behind params

-- Whether tokens begin with a delimiter.
pub data Standing : Type 0 where
  -- they do, and these follow
  Stands : List Tok → Standing
  -- they end within it
  Within : Standing
  Differs : Standing

abbrev pub standing : List Tok → List Tok → Standing
standing [] tokens = Stands tokens
standing (p ∷ delimiter) [] = Within
standing (p ∷ delimiter) (t ∷ tokens) = if same p t then standing delimiter tokens else Differs

abbrev pub is_begin : Tok → Bool
is_begin (tok.Char cat.Begin b) = true
is_begin _ = false

abbrev pub is_end : Tok → Bool
is_end (tok.Char cat.End b) = true
is_end _ = false

-- A blank before an undelimited argument is the space token itself.
abbrev pub is_blank : Tok → Bool
is_blank (tok.Char cat.Space b) = b == 32
is_blank _ = false

-- the number of open groups after a token
abbrev pub level_after : ℕ → Tok → ℕ
level_after depth (tok.Char cat.Begin b) = depth + 1
level_after depth (tok.Char cat.End b) = depth - 1
level_after depth _ = depth

-- What a token does to the number of open groups, or why it can't stand in an argument.
pub data Depth : Type 0 where
  At : ℕ → Depth
  Breaks : Misuse → Depth

abbrev pub grown : Rule → ℕ → Tok → Depth
grown rule depth t =
    if not rule.long && same t rule.par then Breaks ParEnded
    else if depth == 0 && is_end t then Breaks ExtraBrace
    else At (level_after depth t)

-- the group that opens at the front closes with the last token
abbrev pub closes : ℕ → List Tok → Bool
closes depth [] = false
closes depth (t ∷ tokens) =
    if level_after depth t == 0 then length tokens == 0 else closes (level_after depth t) tokens

-- the tokens are one group as a whole
abbrev pub is_group : List Tok → Bool
is_group [] = false
is_group (t ∷ tokens) = is_begin t && closes 0 (t ∷ tokens)

-- an argument without the braces around it, where it is one group as a whole
abbrev pub stripped : List Tok → List Tok
stripped tokens = if is_group tokens then drop 1 (take (length tokens - 1) tokens) else tokens

-- What tokens are for an argument.
pub data Piece : Type 0 where
  -- they begin with this argument, and these follow it and its delimiter
  Found : List Tok → List Tok → Piece
  -- they end within it
  Partial : Piece
  -- no argument begins so
  Wrong : Misuse → Piece

abbrev pub onward : Depth → (ℕ → Piece) → Piece
onward (At depth) later = later depth
onward (Breaks e) later = Wrong e

abbrev pub ended : Bool → Standing → List Tok → Piece → Piece
ended true (Stands rest) argument later = Found (stripped argument) rest
ended true Within argument later = Partial
ended true Differs argument later = later
ended false standing argument later = later

-- The shortest balanced tokens before the delimiter, where so many groups are open and these tokens of
-- the argument came before.
abbrev pub delimited : Rule → List Tok → ℕ → List Tok → List Tok → Piece
delimited rule delimiter depth argument [] = Partial
delimited rule delimiter depth argument (t ∷ tokens) =
    ended (depth == 0) (standing delimiter (t ∷ tokens)) argument
    (onward (grown rule depth t) (λ n. delimited rule delimiter n (argument ++ t ∷ []) tokens))

-- One token or one group, with blanks before it.
abbrev pub undelimited : Rule → ℕ → List Tok → List Tok → Piece
undelimited rule depth argument [] = Partial
undelimited rule depth argument (t ∷ tokens) =
    if length argument == 0 && is_blank t then undelimited rule depth argument tokens
    else onward (grown rule depth t) (λ n. if n == 0 then Found (stripped (argument ++ t ∷ [])) tokens
    else undelimited rule n (argument ++ t ∷ []) tokens)

abbrev pub argument_before : Rule → List Tok → List Tok → Piece
argument_before rule [] tokens = undelimited rule 0 [] tokens
argument_before rule (p ∷ delimiter) tokens = delimited rule (p ∷ delimiter) 0 [] tokens

-- What tokens are for a parameter text.
pub data Outcome : Type 0 where
  -- they begin with a call with these arguments, and these tokens follow it
  Matched : List (List Tok) → List Tok → Outcome
  -- they end within it
  Open : Outcome
  -- no call begins so, and this is its error
  Fails : Misuse → Outcome

abbrev pub with_argument : List Tok → Outcome → Outcome
with_argument argument (Matched arguments rest) = Matched (argument ∷ arguments) rest
with_argument argument Open = Open
with_argument argument (Fails e) = Fails e

abbrev pub followed : Piece → (List Tok → Outcome) → Outcome
followed (Found argument rest) later = with_argument argument (later rest)
followed Partial later = Open
followed (Wrong e) later = Fails e

-- the arguments before these delimiters
abbrev pub arguments : Rule → List (List Tok) → List Tok → Outcome
arguments rule [] tokens = Matched [] tokens
arguments rule (delimiter ∷ delimiters) tokens =
    followed (argument_before rule delimiter tokens) (arguments rule delimiters)

abbrev pub opened : Standing → (List Tok → Outcome) → Outcome
opened (Stands rest) later = later rest
opened Within later = Open
opened Differs later = Fails NoMatch

-- What tokens are for a parameter text: its first delimiter, and then the arguments. `long` says that
-- they may have `par`.
abbrev pub outcome : Bool → Tok → List Tok → List Tok → Outcome
outcome long par params tokens =
    opened (standing (front params) tokens) (arguments (record { long = long; par = par }) (behind params))
