-- What answers mean.
use Rattle.std.specs.Prelude.{◌≡◌, ℕ, List, [], ◌∷◌, codes}
use Rattle.tx_assign.specs.Refusals.{refused_in}
use Rattle.tx_prims.specs.declared.primitives.IntegerParameter.TheVariants.{EscapeChar}
use Rattle.tx_model.specs.Shown.{shown_token}
use Rattle.tx_private.specs.Errors.{decimal_of, showing}
use Rattle.tx_private.specs.World.{World, put_in_front}
use Rattle.tx_private.specs.Environment.{parameter_of}
use Rattle.tx_private.specs.Described.{meaning_text, roman}
use Rattle.tx_private.specs.Texts.{tokens_of, quantity_text}
use Rattle.tx_private.specs.Quantities.{quantity_at}
use Rattle.tx_private.specs.Lists.{storing}
use Rattle.tx_private.specs.Expansions.{list_at, gives_tokens}
use Rattle.tx_private.specs.Readings as private
use Rattle.tx_opens.specs.Opens.{Open, given, SaysSame, begun}
use Rattle.tx_private.specs.Moves.{move_in}
use Rattle.tx_views.specs.Views.{View, viewed, all_viewed, list_in}
use Rattle.tx_views.specs.Places.{address_in}
use Rattle.tx_views.specs.Meanings.{sense_in}
use Rattle.tx_frames.specs.declared.frame.Frame.{Frame}
use Rattle.tx_frames.specs.declared.frame.Frame.TheVariants as frame
use Rattle.tx_frames.specs.declared.frame.Wish.{Wish}
use Rattle.tx_frames.specs.declared.frame.Wish.TheVariants as wish
use Rattle.tx_frames.specs.declared.value.Item.{Item}
use Rattle.tx_frames.specs.declared.value.Item.TheVariants as item
use Rattle.tx_frames.specs.declared.answer.Print.{Print}
use Rattle.tx_frames.specs.declared.answer.Print.TheVariants as print
use Rattle.tx_frames.specs.declared.answer.Work.{Work}
use Rattle.tx_frames.specs.declared.answer.Work.TheVariants as work
use Rattle.tx_frames.specs.declared.answer.Answer.{Answer}
use Rattle.tx_frames.specs.declared.answer.Answer.TheVariants as answer
use Rattle.tx_frames.specs.Values.{value_in, item_in}
use Rattle.tx_frames.specs.Kinds.{wished}
use Rattle.tx_frames.specs.Frames.{wish_of, says, open_of}

-- the text that is put in front
abbrev pub printed : View → Print → World → List ℕ
printed view (print.Token t) w = shown_token (parameter_of w.environment EscapeChar) (viewed view t)
printed view (print.Meaning s) w = meaning_text w.environment (sense_in view s)
printed view (print.Number n) w = decimal_of n
printed view (print.Roman n) w = roman n
printed view print.JobName w = codes "texd"

-- the last move of a reading
abbrev pub move_of : View → Work → World → private.Move
move_of view (work.Amount p) w = private.Done (private.Amount (quantity_at (address_in view p) w)) w
move_of view (work.ListAt p) w = private.Done (private.Tokens (list_at (address_in view p) w)) w
move_of view (work.TheList text p) w = gives_tokens text (list_at (address_in view p) w) w
move_of view (work.TheAmount text q) w = gives_tokens text (tokens_of (quantity_text q)) w
move_of view (work.Body list) w = private.Again (put_in_front (list_in view list) w)
move_of view (work.Print p) w = private.Again (put_in_front (tokens_of (printed view p w)) w)
move_of view (work.Store tokens) w = storing (all_viewed view tokens) w (λ v. private.Done (private.Tokens (all_viewed view tokens)) v)
move_of view (work.NoQuantity s) w = private.Bad (showing 21 0 (meaning_text w.environment (sense_in view s))) w

-- An answer says what an open reading is from here on, and what its move in this world is.
abbrev pub Becomes : View → Open → private.Move → World → Answer → Type 0
Becomes view o m w (answer.Goes f back) = SaysSame o (open_of view f) × (m ≡ wished view (wish_of f) (put_in_front (all_viewed view back) w))
Becomes view o m w (answer.Again back) = m ≡ private.Again (put_in_front (all_viewed view back) w)
Becomes view o m w (answer.Done v back) = m ≡ private.Done (value_in view v) (put_in_front (all_viewed view back) w)
Becomes view o m w (answer.Wrong e) = m ≡ private.Bad (refused_in e) w
Becomes view o m w (answer.Works x) = m ≡ move_of view x w
Becomes view o m w answer.Memory = Unit {0}

-- what comes of an item for an open reading
abbrev pub BecomesGiven : View → Frame → Item → World → Answer → Type 0
BecomesGiven view f i w a = Becomes view (given (open_of view f) (item_in view i)) (says view f (item_in view i ∷ []) w) w a

-- what a reading does at its beginning
abbrev pub BecomesBegun : View → private.Kind → World → Answer → Type 0
BecomesBegun view k w a = Becomes view (begun k) (move_in k [] w) w a

-- an item is one that a reading with this wish is given
abbrev pub SuitsWish : Wish → Item → Type 0
SuitsWish wish.Plain (item.Given v) = ⊥
SuitsWish wish.Plain _ = Unit {0}
SuitsWish _ (item.Given v) = Unit {0}
SuitsWish _ _ = ⊥

-- a scan that wishes for a token as it stands is given its code as well
abbrev pub SuitsScan : Wish → Item → Type 0
SuitsScan wish.Plain i = ⊥
SuitsScan how i = SuitsWish how i

-- an item is one that an open reading is given
abbrev pub Suits : Frame → Item → Type 0
Suits (frame.Scan r s) i = SuitsScan (wish_of (frame.Scan r s)) i
Suits f i = SuitsWish (wish_of f) i
