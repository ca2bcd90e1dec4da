-- The worlds that an input stands for.
use Rattle.std.specs.Prelude.{◌≡◌, ◌≢◌, ℕ, ◌<◌, ◌++◌, ◌||◌, nat_lt, Bool, true, false, List, length, map, get_or, Option, unwrap_or, [], ◌∷◌}
use Rattle.std.specs.List.{list_any, AllByRecursion}
use Rattle.std.specs.Str.{bytes_eq}
use Rattle.tx_model.specs.Tokens.{Token, Name}
use Rattle.tx_model.specs.Pending.{Member, Single, Text}
use Rattle.tx_model.specs.Scanner.{opened}
use Rattle.tx_private.specs.Environment.{meaning_of}
use Rattle.tx_private.specs.World.{World, Command, new_name}
use Rattle.tx_tok.specs.declared.tok.Tok.{Tok}
use Rattle.tx_tok.specs.declared.tok.Tok.TheVariants as tok
use Rattle.tx_views.specs.Views.{View, all_viewed}
use Rattle.tx_input.specs.declared.input.Input.{Input}
use Rattle.tx_input.specs.Texts.{text_members}
use Rattle.tx_input.specs.Owned.{texts_of, has_number, AreCounted}

-- the tokens of lists, none of them marked, in front of the text
abbrev pub pending_in : View → Input → List Member
pending_in view input = map (λ t. Single t false) (all_viewed view input.lists) ++ text_members input.text

-- a world, with what is pending, the steps and the names as the input has them
abbrev pub input_in : View → List (List ℕ) → World → Input → World
input_in view formats base input = record base {
  pending = pending_in view input;
  budget = input.steps.budget;
  frozen = λ text. list_any (bytes_eq text) formats;
  names = texts_of view.naming input.names;
  output = record base.output { steps = input.steps.spent };
}

-- in this view the format's names, which are so many, have the first numbers
pub record IsOfFormat (formats : List (List ℕ)) (view : View) (count : ℕ) : Type 0 where
  pub number : count ≡ length formats
  pub texts : (n : ℕ) → n < length formats → view.naming n ≡ get_or formats n []

-- the same, and in it the session's own names have the bytes that are counted
pub record IsOf (formats : List (List ℕ)) (view : View) (input : Input) : Type 0 where
  pub format : IsOfFormat formats view input.format_names
  pub counted : AreCounted view.naming input.names

-- whether a number is that of a name of the format, or of one of the session's own
abbrev pub has_name : ℕ → Input → Bool
has_name n input = nat_lt n input.format_names || has_number n input.names

-- no name of the format or of the session has this text
abbrev pub IsUnnamed : View → Input → List ℕ → Type 0
IsUnnamed view input text = (n : ℕ) → has_name n input ≡ true → view.naming n ≢ text

-- a token with its present meaning
abbrev pub present : World → Token → Command
present w token = record { token = token; marked = false; meaning = meaning_of w.environment token }

-- what a name with this text, taken from the bytes of a line, adds to the session's own names
abbrev pub new_text : List ℕ → World → Option (List ℕ)
new_text text w = new_name (Text (opened []) ∷ []) (Name text) w

-- the text of the name that has no number yet
abbrev pub wanted_text : Input → List ℕ
wanted_text input = unwrap_or input.wanted []

-- A token's number is one of those that are known, if it is a name.
abbrev pub IsKnown : (ℕ → Bool) → Tok → Type 0
IsKnown known (tok.Name n) = known n ≡ true
IsKnown known _ = Unit {0}

abbrev pub AllKnown : (ℕ → Bool) → List Tok → Type 0
AllKnown known tokens = AllByRecursion (IsKnown known) tokens

-- each number that an input has is known; of those of the format's names nothing is said
pub record KnowsInput (known : ℕ → Bool) (input : Input) : Type 0 where
  pub lists : AllKnown known input.lists
  pub names : AllByRecursion (λ o. known o.0 ≡ true) input.names
