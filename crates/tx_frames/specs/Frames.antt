-- What open readings stand for.
use Rattle.std.specs.Prelude.{Bool, true, false, List, ◌∷◌, Option, Some, None}
use Rattle.tx_model.specs.declared.category.Cat.TheVariants as cat
use Rattle.tx_private.specs.World.{World}
use Rattle.tx_private.specs.Meanings as meaning
use Rattle.tx_private.specs.Readings as private
use Rattle.tx_private.specs.Quantities.{byte_first, quantity_from}
use Rattle.tx_private.specs.Lists.{balanced, left_brace, optional_equals, list_value, list_from}
use Rattle.tx_private.specs.Expansions.{list_at, gives_tokens, the, the_of, number_text, roman_text, text_of_next, string_of, meaning_of_command}
use Rattle.tx_opens.specs.Opens.{Open}
use Rattle.tx_amounts.specs.declared.amount.ScanWish.{ScanWish}
use Rattle.tx_amounts.specs.declared.amount.ScanWish.TheVariants as how
use Rattle.tx_amounts.specs.declared.begun.Begun.{Begun}
use Rattle.tx_amounts.specs.Scanning as scans
use Rattle.tx_views.specs.Views.{View, all_viewed}
use Rattle.tx_prims.specs.declared.primitives.Primitive.TheVariants as primitive
use Rattle.tx_views.specs.declared.sense.Sense.TheVariants as sense
use Rattle.tx_views.specs.Meanings.{sense_in}
use Rattle.tx_frames.specs.declared.reading.TextKind.{TextKind}
use Rattle.tx_frames.specs.declared.reading.TextKind.TheVariants as text
use Rattle.tx_frames.specs.declared.reading.Reading.TheVariants as reading
use Rattle.tx_frames.specs.declared.frame.Wish.{Wish}
use Rattle.tx_frames.specs.declared.frame.Wish.TheVariants as wish
use Rattle.tx_frames.specs.declared.frame.Text.{Text}
use Rattle.tx_frames.specs.declared.frame.ListStage.{ListStage}
use Rattle.tx_frames.specs.declared.frame.ListStage.TheVariants as list
use Rattle.tx_frames.specs.declared.frame.Stage.{Stage}
use Rattle.tx_frames.specs.declared.frame.Stage.TheVariants as stage
use Rattle.tx_frames.specs.declared.frame.Frame.{Frame}
use Rattle.tx_frames.specs.declared.frame.Frame.TheVariants as frame
use Rattle.tx_frames.specs.Values.{command_in}
use Rattle.tx_frames.specs.Kinds.{expanded_kind, text_kind, kind_in, wished}

-- whether a text is the body of a definition
abbrev pub is_body : TextKind → Bool
is_body text.Body = true
is_body text.ExpandedBody = true
is_body _ = false

-- how each reading takes its next item
abbrev pub text_wish : TextKind → Wish
text_wish text.Plain = wish.Plain
text_wish text.Body = wish.Plain
text_wish text.Expanded = wish.Expanded true
text_wish text.ExpandedBody = wish.Expanded true

abbrev pub list_wish : ListStage → Wish
list_wish list.Start = wish.Expanded false
list_wish list.Register = wish.Within reading.Number
list_wish (list.Braced b) = wish.Within (reading.Text text.Plain)

abbrev pub stage_wish : Stage → Wish
stage_wish stage.The = wish.Expanded false
stage_wish stage.TheRegister = wish.Within reading.Number
stage_wish (stage.TheQuantity t s) = wish.Within (reading.Quantity t s)
stage_wish stage.Number = wish.Within reading.Number
stage_wish stage.Roman = wish.Within reading.Number
stage_wish stage.String = wish.Plain
stage_wish stage.Meaning = wish.Plain

abbrev pub scan_wish : Option Begun → ScanWish → Wish
scan_wish None how.Plain = wish.Plain
scan_wish None _ = wish.Expanded false
scan_wish (Some begun) _ = wish.Within (reading.Quantity begun.token begun.sense)

abbrev pub wish_of : Frame → Wish
wish_of frame.LeftBrace = wish.Expanded false
wish_of frame.Equals = wish.Expanded false
wish_of (frame.Scan r s) = scan_wish s.begun (scans.wish_of s)
wish_of (frame.Quantity t a) = wish.Within reading.Number
wish_of (frame.Text x) = text_wish x.kind
wish_of (frame.List s) = list_wish s
wish_of (frame.Expansion text s) = stage_wish s

-- what is said of a text of which these tokens were taken
abbrev pub text_says : View → Text → List private.Item → World → private.Move
text_says view x items w = balanced (is_body x.kind) (wished view (text_wish x.kind)) x.groups (all_viewed view x.tokens) items w

-- what is said of the value of a list
abbrev pub list_says : ListStage → List private.Item → World → private.Move
list_says list.Start items w = list_value items w
list_says list.Register items w = byte_first 15 (λ n rest v. private.Done (private.Tokens (list_at (meaning.OfRegister meaning.Toks n) v)) v) items w
list_says (list.Braced b) items w = list_from (meaning.Character cat.Begin b) items w

-- what is said of an expansion
abbrev pub stage_says : View → Bool → Stage → List private.Item → World → private.Move
stage_says view text stage.The items w = the text items w
stage_says view text stage.TheRegister items w = byte_first 15 (λ n rest v. gives_tokens text (list_at (meaning.OfRegister meaning.Toks n) v) v) items w
stage_says view text (stage.TheQuantity t s) items w = the_of text (command_in view t s) (sense_in view s) items w
stage_says view text stage.Number items w = number_text items w
stage_says view text stage.Roman items w = roman_text items w
stage_says view text stage.String items w = text_of_next string_of items w
stage_says view text stage.Meaning items w = text_of_next meaning_of_command items w

abbrev pub kind_of : View → Frame → private.Kind
kind_of view frame.LeftBrace = private.LeftBrace
kind_of view frame.Equals = private.OptionalEquals
kind_of view (frame.Scan r s) = kind_in view r
kind_of view (frame.Quantity t a) = private.QuantityFrom (command_in view t (sense.Primitive (primitive.Assignment a)))
kind_of view (frame.Text x) = text_kind x.kind
kind_of view (frame.List s) = private.ListValue
kind_of view (frame.Expansion text s) = expanded_kind text

-- what an open reading says of the items to come, of which there is at least one
abbrev pub says : View → Frame → List private.Item → World → private.Move
says view frame.LeftBrace items w = left_brace items w
says view frame.Equals items w = optional_equals items w
says view (frame.Scan r s) items w = scans.says view s items w
says view (frame.Quantity t a) items w = quantity_from (meaning.Prim (primitive.Assignment a)) items w
says view (frame.Text x) items w = text_says view x items w
says view (frame.List s) items w = list_says s items w
says view (frame.Expansion text s) items w = stage_says view text s items w

abbrev pub open_of : View → Frame → Open
open_of view f = record { kind = kind_of view f; says = λ item later w. says view f (item ∷ later) w }
