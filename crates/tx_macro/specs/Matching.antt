-- What a matcher says of the tokens to come.
use Rattle.std.specs.Prelude.{◌≡◌, ◌+◌, ◌-◌, ◌≤◌, List, [], ◌∷◌, ◌++◌, length, take, drop, slice_set}
use Rattle.tx_tok.specs.declared.tok.Tok.{Tok}
use Rattle.tx_macro.specs.declared.macro_match.Match.{Match}
use Rattle.tx_macro.specs.declared.macro_match.Match.TheVariants.{More, Done, NoMatch, ParEnded, ExtraBrace, Memory}
use Rattle.tx_macro.specs.declared.macro_match.MacroMatch.{MacroMatch}
use Rattle.tx_macro.specs.declared.argument.Argument.{Argument}
use Rattle.tx_macro.specs.declared.argument.Step.{Step}
use Rattle.tx_macro.specs.declared.argument.Step.TheVariants as step
use Rattle.tx_macro.specs.declared.rule.Misuse.TheVariants as misuse
use Rattle.tx_macro.specs.declared.rule.Rule.{Rule}
use Rattle.tx_macro.specs.Outcome.{Piece, Found, Partial, Wrong, delimited, undelimited, Outcome, Matched, Open, Fails, with_argument, followed, arguments, opened, standing}

-- what an undelimited argument under way is with these tokens
abbrev pub undelimited_piece : Rule → Argument → List Tok → Piece
undelimited_piece rule a tokens = undelimited rule a.place.depth a.taken.items tokens

-- what a delimited one is
abbrev pub delimited_piece : Rule → List Tok → Argument → List Tok → Piece
delimited_piece rule delimiter a tokens =
    delimited rule delimiter a.place.depth (take a.place.known a.taken.items) (drop a.place.known a.taken.items ++ tokens)

abbrev pub piece : Rule → List Tok → Argument → List Tok → Piece
piece rule [] a tokens = undelimited_piece rule a tokens
piece rule (p ∷ delimiter) a tokens = delimited_piece rule (p ∷ delimiter) a tokens

-- fewer tokens are under way than the delimiter has
abbrev pub IsShort : List Tok → Argument → Type 0
IsShort delimiter a = length a.taken.items ≤ a.place.known + (length delimiter - 1)

-- what feeding a token to an argument under way answers, where such arguments are read so
abbrev pub TakesBy : (Argument → List Tok → Piece) → List Tok → Argument → Tok → Step → Argument → Type 0
TakesBy piece_of delimiter old t step.More new =
    ((later : List Tok) → piece_of old (t ∷ later) ≡ piece_of new later) × (piece_of new [] ≡ Partial) × IsShort delimiter new
TakesBy piece_of delimiter old t step.Ended new =
    (later : List Tok) → piece_of old (t ∷ later) ≡ Found new.taken.items later
TakesBy piece_of delimiter old t (step.Wrong misuse) new =
    (later : List Tok) → piece_of old (t ∷ later) ≡ Wrong misuse
TakesBy piece_of delimiter old t step.Memory new = (new.taken.items ≡ old.taken.items) × (new.place ≡ old.place)

-- what an argument to which a token was added comes to, where it was read so
abbrev pub SettlesBy : (Argument → List Tok → Piece) → List Tok → (List Tok → Piece) → Step → Argument → Type 0
SettlesBy piece_of delimiter was step.More new =
    ((later : List Tok) → was later ≡ piece_of new later) × (piece_of new [] ≡ Partial) × IsShort delimiter new
SettlesBy piece_of delimiter was step.Ended new = (later : List Tok) → was later ≡ Found new.taken.items later
SettlesBy piece_of delimiter was (step.Wrong misuse) new = (later : List Tok) → was later ≡ Wrong misuse
SettlesBy piece_of delimiter was step.Memory new = ⊥

abbrev pub Takes : Rule → List Tok → Argument → Tok → Step → Argument → Type 0
Takes rule delimiter old t step new = TakesBy (piece rule delimiter) delimiter old t step new

abbrev pub with_arguments : List (List Tok) → Outcome → Outcome
with_arguments [] o = o
with_arguments (argument ∷ arguments) o = with_argument argument (with_arguments arguments o)

-- what is left to match, where an argument is under way
abbrev pub going_on : Rule → List (List Tok) → Argument → List Tok → Outcome
going_on rule [] a tokens = Matched [] tokens
going_on rule (delimiter ∷ delimiters) a tokens = followed (piece rule delimiter a tokens) (arguments rule delimiters)

-- more tokens are wanted for the argument under way
abbrev pub WaitsFor : Rule → List (List Tok) → Argument → Type 0
WaitsFor rule [] a = Unit {0}
WaitsFor rule (delimiter ∷ delimiters) a = (piece rule delimiter a [] ≡ Partial) × IsShort delimiter a

-- no token was taken for the argument
pub record IsFresh (a : Argument) : Type 0 where
  pub taken : a.taken.items ≡ []
  pub known : a.place.known ≡ 0
  pub depth : a.place.depth ≡ 0

-- The tokens of the argument that ended become the next argument found, and another is under way.
pub record EndsArgument (old new : MacroMatch) : Type 0 where
  pub rule : new.rule ≡ old.rule
  pub first : new.first.items ≡ old.first.items
  pub matched : new.matched ≡ old.matched
  pub delimiters : new.delimiters.items ≡ old.delimiters.items
  pub arguments : new.arguments.items ≡ slice_set old.arguments.items old.found old.current.taken.items
  pub found : new.found ≡ old.found + 1
  pub fresh : IsFresh new.current

-- What the tokens to come are: the outcome of those that were fed and these.
abbrev pub says : MacroMatch → List Tok → Outcome
says m tokens =
    opened (standing (drop m.matched m.first.items) tokens)
    (λ rest. with_arguments (take m.found m.arguments.items) (going_on m.rule (drop m.found m.delimiters.items) m.current rest))

-- The matcher can be fed: what was fed leaves the outcome open.
abbrev pub IsOpen : MacroMatch → Type 0
IsOpen m = (says m [] ≡ Open) × WaitsFor m.rule (drop m.found m.delimiters.items) m.current

-- the arguments that were found
abbrev pub arguments_of : MacroMatch → List (List Tok)
arguments_of m = m.arguments.items

-- The matcher is done: a call was fed, and all tokens to come follow it.
abbrev pub IsDone : MacroMatch → Type 0
IsDone m = (later : List Tok) → says m later ≡ Matched (arguments_of m) later

-- where the matcher stands, as an answer
abbrev pub Progress : MacroMatch → Match → Type 0
Progress m More = IsOpen m
Progress m Done = IsDone m
Progress m _ = ⊥

-- What feeding a token answers: more tokens are wanted where the outcome stays open; it is done at the
-- last token of a call; an error comes at the first token with which no call begins.
abbrev pub Answers : MacroMatch → Tok → Match → MacroMatch → Type 0
Answers old t More new = ((later : List Tok) → says old (t ∷ later) ≡ says new later) × IsOpen new
Answers old t Done new = ((later : List Tok) → says old (t ∷ later) ≡ says new later) × IsDone new
Answers old t NoMatch new = (later : List Tok) → says old (t ∷ later) ≡ Fails misuse.NoMatch
Answers old t ParEnded new = (later : List Tok) → says old (t ∷ later) ≡ Fails misuse.ParEnded
Answers old t ExtraBrace new = (later : List Tok) → says old (t ∷ later) ≡ Fails misuse.ExtraBrace
Answers old t Memory new = ((later : List Tok) → says old later ≡ says new later) × IsOpen new
