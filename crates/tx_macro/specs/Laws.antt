-- What is proved of macro calls.
use Rattle.std.specs.Prelude.{◌≡◌, Bool, true, IsTrue, List, ◌++◌}
use Rattle.tx_tok.specs.declared.tok.Tok.{Tok}
use Rattle.tx_macro.specs.Outcome.{same, Matched, outcome}
use Rattle.tx_macro.specs.Split.{all_can_stand, Splits}
use Rattle.tx_macro.specs.ParameterText.{IsParameterText}
use Rattle.tx_macro.specs.Substitution.{substituted}

-- tokens that match are split so
abbrev pub MatchedIsSplit : Type 0
MatchedIsSplit =
    (long : Bool) (par : Tok) (params tokens : List Tok) (arguments : List (List Tok)) (rest : List Tok) →
    outcome long par params tokens ≡ Matched arguments rest → Splits params arguments tokens rest

-- and tokens that are split so match, where the arguments as they stood have `par` only if the macro is long
abbrev pub SplitIsMatched : Type 0
SplitIsMatched =
    (long : Bool) (par : Tok) (params tokens : List Tok) (arguments : List (List Tok)) (rest : List Tok) (split : Splits params arguments tokens rest) →
    IsTrue (all_can_stand long par split.raws) → outcome long par params tokens ≡ Matched arguments rest

-- tokens are split in one way
abbrev pub SplitIsUnique : Type 0
SplitIsUnique =
    (params tokens : List Tok) (arguments others : List (List Tok)) (rest other : List Tok) →
    Splits params arguments tokens rest → Splits params others tokens other → (arguments ≡ others) × (rest ≡ other)

-- the arguments as they stood, in the places of the parameters, give back what was matched
abbrev pub SubstitutionRestores : Type 0
SubstitutionRestores =
    (params tokens : List Tok) (arguments : List (List Tok)) (rest : List Tok) (split : Splits params arguments tokens rest) →
    IsParameterText params → substituted split.raws params ++ rest ≡ tokens

-- delimiters are compared as tokens
abbrev pub SameIsEqual : Type 0
SameIsEqual = (a b : Tok) → same a b ≡ true → a ≡ b
