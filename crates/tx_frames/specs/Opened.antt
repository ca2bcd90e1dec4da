-- Open readings in the middle of a step.
use Rattle.std.specs.Prelude.{◌≡◌, Bool, ℤ, ◌∷◌, [], Option, Some, None}
use Rattle.tx_private.specs.Readings as private
use Rattle.tx_private.specs.Lists.{list_from}
use Rattle.tx_private.specs.Errors.{plain}
use Rattle.tx_private.specs.Expansions.{the_of, expansion, expandable_primitive, number_text, roman_text}
use Rattle.tx_num.specs.declared.quantities.Quant.TheVariants as quant
use Rattle.tx_frames.specs.declared.value.Item.{Item}
use Rattle.tx_private.specs.World.{World}
use Rattle.tx_opens.specs.Opens.{Open, SaysSame}
use Rattle.tx_prims.specs.declared.primitives.Expandable.{Expandable}
use Rattle.tx_tok.specs.declared.tok.Tok.{Tok}
use Rattle.tx_views.specs.declared.sense.Sense.{Sense}
use Rattle.tx_views.specs.Views.{View}
use Rattle.tx_views.specs.Meanings.{sense_in}
use Rattle.tx_frames.specs.Values.{command_in, item_in}
use Rattle.tx_frames.specs.Kinds.{expanded_kind}
use Rattle.tx_frames.specs.ListPlaces.{the_quantity, braced}
use Rattle.tx_frames.specs.declared.frame.Frame.TheVariants as frame
use Rattle.tx_frames.specs.declared.frame.Stage.TheVariants as stage
use Rattle.tx_frames.specs.declared.answer.Answer.{Answer}
use Rattle.tx_frames.specs.Frames.{open_of}
use Rattle.tx_frames.specs.Answers.{Becomes}

-- the value of a list that began with what means this
abbrev pub behind_sense : View → Sense → Open
behind_sense view s = record { kind = private.ListValue; says = λ item later w. list_from (sense_in view s) (item ∷ later) w }

-- the same of a list in braces
abbrev pub braced_sense : View → Sense → Open
braced_sense view s = record { kind = private.ListValue; says = λ item later w. braced (sense_in view s) (item ∷ later) w }

-- \the, before a token that means this
abbrev pub the_before : View → Bool → Tok → Sense → Open
the_before view text t s = record { kind = expanded_kind text; says = λ item later w. the_of text (command_in view t s) (sense_in view s) (item ∷ later) w }

-- the expansion of a token that means this
abbrev pub expanding : View → Bool → Tok → Sense → Open
expanding view text t s = record { kind = expanded_kind text; says = λ item later w. expansion text (command_in view t s) (sense_in view s) (item ∷ later) w }

-- the expansion of a primitive
abbrev pub primitive_open : Bool → Expandable → Open
primitive_open text p = record { kind = expanded_kind text; says = λ item later w. expandable_primitive text p (item ∷ later) w }

-- \the goes on with a quantity that begins with what means this, or it is an error
abbrev pub BeginsQuantity : Bool → Tok → Sense → Answer → Type 0
BeginsQuantity text t s a =
    (view : View) (o : Open) (w : World) → SaysSame o (open_of view (frame.Expansion text (stage.TheQuantity t s))) → Becomes view o (the_quantity text (command_in view t s) (sense_in view s) [] w) w a

-- an item gives an integer, or the readings of numbers that are printed have an error
abbrev pub GivesInteger : Item → Option ℤ → Type 0
GivesInteger i (Some n) = (view : View) → item_in view i ≡ private.Given (private.Amount (quant.Int n))
GivesInteger i None =
    (view : View) (w : World) → (number_text (item_in view i ∷ []) w ≡ private.Bad (plain 63) w) × (roman_text (item_in view i ∷ []) w ≡ private.Bad (plain 63) w)
