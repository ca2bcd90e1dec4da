-- What the wish for a token, and what becomes of a name's text, say.
use Rattle.std.specs.Prelude.{◌≡◌, ℕ, ℤ, ◌+◌, ◌∷◌, Bool, List, Option, None, Some, IsSome, IsSomeAnd, length, if◌then◌else◌}
use Rattle.tx_model.specs.Tokens.{Name}
use Rattle.tx_scan.specs.declared.cats.Cats.{Cats}
use Rattle.tx_scan.specs.Scans.{category_by}
use Rattle.tx_prims.specs.declared.primitives.IntegerParameter.TheVariants.{EndLineChar}
use Rattle.tx_private.specs.Errors.{plain}
use Rattle.tx_private.specs.Environment.{category_of, parameter_of}
use Rattle.tx_private.specs.World.{World, Command, failure, Takes, Finds-none, Spends, Breaks, taking, making, made}
use Rattle.tx_tok.specs.declared.tok.Tok.{Tok}
use Rattle.tx_tok.specs.declared.tok.Tok.TheVariants as tok
use Rattle.tx_views.specs.Views.{View, IsView, viewed}
use Rattle.tx_input.specs.declared.input.Input.{Input}
use Rattle.tx_input.specs.declared.input.Taken.{Taken}
use Rattle.tx_input.specs.declared.input.Taken.TheVariants as taken
use Rattle.tx_input.specs.declared.input.Found.{Found}
use Rattle.tx_input.specs.declared.input.Found.TheVariants as found
use Rattle.tx_input.specs.declared.owned.NameLimit.{NameLimit}
use Rattle.tx_input.specs.Owned.{Own, texts_of, bytes_of, limit_for, error_of}
use Rattle.tx_input.specs.Worlds.{input_in, IsOf, has_name, IsUnnamed, present, new_text, wanted_text, IsKnown}

-- What came of the wish for a token in the first world, which left the second one. A name's text is the one
-- that is wanted. Of want of memory nothing is said.
abbrev pub TakesBy : View → World → Taken → Option (List ℕ) → World → Type 0
TakesBy view old (taken.Token t) wanted new = taking old ≡ Takes (present old (viewed view t)) new
TakesBy view old taken.Name wanted new = IsSomeAnd wanted (λ text. taking old ≡ making (new_text text new) (present old (Name text)) new)
TakesBy view old taken.End wanted new = taking old ≡ Finds-none new
TakesBy view old taken.Spent wanted new = taking old ≡ Spends old.output
TakesBy view old taken.Invalid wanted new = taking old ≡ Breaks (failure (plain 2) new)
TakesBy view old taken.Memory wanted new = Unit {0}

-- the same for each view and each world with these categories and this \endlinechar
abbrev pub AfterTake : Cats → ℤ → Input → Taken → Input → Type 0
AfterTake cats end old t new =
    (view : View) (formats : List (List ℕ)) (base : World) → category_of base.environment ≡ category_by cats → parameter_of base.environment EndLineChar ≡ end → TakesBy view (input_in view formats base old) t new.wanted (input_in view formats base new)

-- a token or a name costs a step, and nothing else does
abbrev pub steps_for : Taken → ℕ
steps_for (taken.Token t) = 1
steps_for taken.Name = 1
steps_for _ = 0

-- a name is wanted where one was taken, and else what was wanted before
abbrev pub WantsAfter : Taken → Option (List ℕ) → Option (List ℕ) → Type 0
WantsAfter taken.Name old new = IsSome new
WantsAfter _ old new = new ≡ old

-- the number of a token that is taken is known
abbrev pub KnowsTaken : (ℕ → Bool) → Taken → Type 0
KnowsTaken known (taken.Token t) = IsKnown known t
KnowsTaken known _ = Unit {0}

-- the limit that a new name with the wanted text is beyond
abbrev pub limit_in : Input → Option NameLimit
limit_in input = limit_for (length (wanted_text input)) input.names

-- the session's own names, once the wanted text has this number
abbrev pub names_with : ℕ → Input → Own
names_with n input = if has_name n input then input.names else (n, bytes_of input.names + length (wanted_text input)) ∷ input.names

-- The wanted text has this number from now on, which is the token's. What the taking of the name comes to is so
-- for each view in which the number has the text.
pub record IsNumbered (n : ℕ) (old : Input) (t : Tok) (new : Input) : Type 0 where
  pub token : t ≡ tok.Name n
  pub becomes : new ≡ record old { names = names_with n old; wanted = None }
  pub takes : (view : View) (formats : List (List ℕ)) (base : World) (command : Command) → IsView view → IsOf formats view old → view.naming n ≡ wanted_text old → making (new_text (wanted_text old) (input_in view formats base old)) command (input_in view formats base old) ≡ Takes command (input_in view formats base new)
  pub view : (view : View) (formats : List (List ℕ)) → IsOf formats view old → view.naming n ≡ wanted_text old → IsOf formats view new

-- in this view the number is that of the wanted text, or no name that the input has has that text
abbrev pub Agrees : Option ℕ → View → Input → Type 0
Agrees (Some n) view input = IsView view × (view.naming n ≡ wanted_text input)
Agrees None view input = IsUnnamed view input (wanted_text input)

-- a limit refuses the name with the wanted text
abbrev pub Refuses : Option ℕ → NameLimit → Input → Type 0
Refuses number limit input =
    (view : View) (formats : List (List ℕ)) (base : World) (command : Command) → IsOf formats view input → Agrees number view input → making (new_text (wanted_text input) (input_in view formats base input)) command (input_in view formats base input) ≡ Breaks (failure (error_of limit) (input_in view formats base input))

-- no limit refuses a new name with the wanted text
abbrev pub HasRoom : Input → Type 0
HasRoom input =
    (view : View) (formats : List (List ℕ)) (base : World) (command : Command) → IsOf formats view input → made (wanted_text input) command (input_in view formats base input) ≡ Takes command (record (input_in view formats base input) { names = wanted_text input ∷ texts_of view.naming input.names })

-- After the wanted text's number was told, or that it has none. Only a token changes the input.
abbrev pub AfterFound : Option ℕ → Input → Found → Input → Type 0
AfterFound number old (found.Token t) new = IsSomeAnd number (λ n. IsNumbered n old t new)
AfterFound number old found.Intern new = (number ≡ None) × (limit_in old ≡ None) × HasRoom old × (new ≡ old)
AfterFound number old (found.Full limit) new = (limit_in old ≡ Some limit) × Refuses number limit old × (new ≡ old)
AfterFound number old found.Memory new = new ≡ old
