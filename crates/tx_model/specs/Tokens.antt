-- Tokens as a private TeX sees them: a name is its text. The TeXbook, chapter 7.
use Rattle.std.specs.Prelude.{ℕ, Bool, true, false, List}
use Rattle.tx_model.specs.declared.category.Cat.{Cat}
use Rattle.tx_model.specs.declared.category.Cat.TheVariants as cat

pub data Token : Type 0 where
  -- a character with its category
  Char : Cat → ℕ → Token
  -- a control sequence
  Name : List ℕ → Token
  -- an active character
  Active : ℕ → Token
  -- a parameter's number in a macro's text
  Param : ℕ → Token
  -- what stands between a macro's parameter text and its body
  Stop : Token

abbrev pub is_left_brace : Token → Bool
is_left_brace (Char cat.Begin b) = true
is_left_brace _ = false

abbrev pub is_right_brace : Token → Bool
is_right_brace (Char cat.End b) = true
is_right_brace _ = false
