-- The moves that a run is in the middle of.
use Rattle.std.specs.Prelude.{◌≡◌, ℕ, Bool, true, false, List, [], ◌∷◌, pos}
use Rattle.tx_num.specs.declared.quantities.ErrorNo.{ErrorNo}
use Rattle.tx_model.specs.Tokens.{Token, Name}
use Rattle.tx_prims.specs.declared.primitives.IntegerParameter.TheVariants.{HangAfter}
use Rattle.tx_private.specs.Errors.{Error}
use Rattle.tx_private.specs.Meanings as meaning
use Rattle.tx_private.specs.Environment.{assigning}
use Rattle.tx_private.specs.World.{World, Command, Takes, is_overfull, making, taking, put_in_front, with_environment, logged}
use Rattle.tx_private.specs.Readings as private
use Rattle.tx_private.specs.Reads.{Result}
use Rattle.tx_private.specs.Texts.{tokens_of}
use Rattle.tx_opens.specs.Opens.{Open, Comes}
use Rattle.tx_input.specs.Worlds.{present, new_text}
use Rattle.tx_run.specs.declared.doing.Use.{Use}
use Rattle.tx_run.specs.declared.doing.Use.TheVariants as use_of
use Rattle.tx_run.specs.declared.doing.Told.{Told}
use Rattle.tx_run.specs.declared.doing.Told.TheVariants as told
use Rattle.tx_run.specs.declared.doing.Stored.{Stored}
use Rattle.tx_run.specs.declared.doing.Stored.TheVariants as stored

-- what comes of a list that is copied
abbrev pub used : Use → List Token → World → private.Move
used use_of.Value tokens w = private.Done (private.Tokens tokens) w
used use_of.Front tokens w = private.Again (put_in_front tokens w)

-- what comes of a text that is printed
abbrev pub tells : Told → List ℕ → World → private.Move
tells told.Log text w = private.Again (logged text w)
tells (told.Error number) text w = private.Bad (record { number = number; shown = text }) w

-- what a list means that is assigned
abbrev pub stored_meaning : Stored → List Token → meaning.Meaning
stored_meaning stored.List tokens = meaning.Tokens tokens
stored_meaning (stored.Macro long protected) tokens = meaning.Macro' (record { long = long; protected = protected; body = tokens })

-- a paragraph's lines hang after the first one
abbrev pub hang_after_first : World → World
hang_after_first w = with_environment (assigning false (meaning.OfInteger HangAfter) (meaning.Integer (pos 1)) w.environment) w

-- However the token was wished for, of which a name with this text has come: what comes of that wish.
abbrev pub TakesName : Open → List Open → List ℕ → World → Result → Type 0
TakesName o outer text w r =
    (before : World) → is_overfull before ≡ false → taking before ≡ making (new_text text w) (present before (Name text)) w → Comes o outer (private.Take before) r
