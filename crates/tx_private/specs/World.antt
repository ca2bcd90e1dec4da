-- All that a run works on.
use Rattle.std.specs.Prelude.{ℕ, ℤ, pos, ◌+◌, ◌==◌, ◌||◌, nat_le, nat_lt, Bool, false, List, [], ◌∷◌, ◌++◌, length, map, Option, Some, None, if◌then◌else◌}
use Rattle.std.specs.List.{list_any}
use Rattle.std.specs.Str.{bytes_eq}
use Rattle.tx_model.specs.Tokens.{Token, Name}
use Rattle.tx_model.specs.Log.{log_line}
use Rattle.tx_model.specs.Pending.{Member, Single, Text, Next, First, Empty, Blocked, next, line_number}
use Rattle.tx_prims.specs.declared.primitives.IntegerParameter.TheVariants.{EndLineChar, NewLineChar}
use Rattle.tx_private.specs.Errors.{Error, plain, numbered}
use Rattle.tx_private.specs.Meanings.{Meaning}
use Rattle.tx_private.specs.Environment.{Environment, parameter_of, category_of, meaning_of}

-- what a run has made so far: the steps spent, the pages and their bytes, and the log
pub record Output : Type 0 where
  pub steps : ℕ
  pub pages : ℕ
  pub dvi : List ℕ
  pub log : List ℕ

pub record World : Type 0 where
  pub pending : List Member
  pub environment : Environment
  pub budget : ℕ
  -- the token that \afterassignment keeps
  pub kept : Option Token
  -- whether the run is a preamble's
  pub preamble : Bool
  -- how many readings that count are open, one within another
  pub depth : ℕ
  -- the tokens of the lists that the run has stored
  pub stored : ℕ
  -- whether the format has a name, and the names that the session has beside the format's
  pub frozen : List ℕ → Bool
  pub names : List (List ℕ)
  pub output : Output

-- a token with its mark and its present meaning
pub record Command : Type 0 where
  pub token : Token
  pub marked : Bool
  pub meaning : Meaning

-- how a run fails: by this error, at this line, where \newlinechar is this, with what it has made
pub record Failure : Type 0 where
  pub error : Error
  pub line : ℕ
  pub newline_char : ℤ
  pub output : Output

abbrev pub failure : Error → World → Failure
failure error w = record { error = error; line = line_number w.pending; newline_char = parameter_of w.environment NewLineChar; output = w.output }

-- what comes of the wish for a token
pub data Taking : Type 0 where
  -- a token with its present meaning; it cost a step
  Takes : Command → World → Taking
  -- nothing is pending
  Finds-none : World → Taking
  -- a token is there, and no step is left
  Spends : Output → Taking
  -- an invalid byte is there
  Breaks : Failure → Taking

-- these tokens in front of what is pending
abbrev pub put_in_front : List Token → World → World
put_in_front tokens w = record w { pending = map (λ t. Single t false) tokens ++ w.pending }

abbrev pub with_environment : Environment → World → World
with_environment e w = record w { environment = e }

-- a line more in the log
abbrev pub logged : List ℕ → World → World
logged text w = record w { output = record w.output { log = w.output.log ++ log_line (parameter_of w.environment NewLineChar) text } }

-- one step more
abbrev pub stepped : List Member → World → World
stepped members w = record w { pending = members; output = record w.output { steps = w.output.steps + 1 } }

-- A name is made where it is taken from the bytes of a line, and the session doesn't have it.
abbrev pub new_name : List Member → Token → World → Option (List ℕ)
new_name (Text rest ∷ members) (Name text) w =
    if w.frozen text || list_any (bytes_eq text) w.names then None else Some text
new_name _ _ w = None

abbrev pub total_length : List (List ℕ) → ℕ
total_length [] = 0
total_length (text ∷ texts) = length text + total_length texts

-- how many names a session may have beside the format's, how many bytes in them, and in one of them
abbrev pub made : List ℕ → Command → World → Taking
made text command w =
    if nat_le 65536 (length w.names) then Breaks (failure (numbered 57 0 (pos 0)) w)
    else if nat_lt 4194304 (total_length w.names + length text) then Breaks (failure (numbered 57 1 (pos 0)) w)
    else if nat_lt 1024 (length text) then Breaks (failure (numbered 57 2 (pos 0)) w)
    else Takes command (record w { names = text ∷ w.names })

abbrev pub making : Option (List ℕ) → Command → World → Taking
making None command w = Takes command w
making (Some text) command w = made text command w

abbrev pub taken_from : World → Next → Taking
taken_from w (First token marked members) =
    if w.output.steps == w.budget then Spends w.output
    else making (new_name w.pending token w) (record { token = token; marked = marked; meaning = meaning_of w.environment token }) (stepped members w)
taken_from w (Empty members) = Finds-none (record w { pending = members })
taken_from w (Blocked members) = Breaks (failure (plain 2) (record w { pending = members }))

-- the next token, by the present categories
abbrev pub taking : World → Taking
taking w = taken_from w (next (category_of w.environment) (parameter_of w.environment EndLineChar) w.pending)

-- how many single tokens are pending
abbrev pub pending_tokens : List Member → ℕ
pending_tokens [] = 0
pending_tokens (Single t marked ∷ members) = pending_tokens members + 1
pending_tokens (Text rest ∷ members) = pending_tokens members

-- more tokens are pending than may be
abbrev pub is_overfull : World → Bool
is_overfull w = nat_lt 1000000 (pending_tokens w.pending)
