-- Readings as the definitions have them.
use Rattle.std.specs.Prelude.{Bool, true, false}
use Rattle.tx_private.specs.World.{World}
use Rattle.tx_private.specs.Readings as private
use Rattle.tx_views.specs.Views.{View}
use Rattle.tx_frames.specs.declared.reading.TextKind.{TextKind}
use Rattle.tx_frames.specs.declared.reading.TextKind.TheVariants as text
use Rattle.tx_frames.specs.declared.reading.Reading.{Reading}
use Rattle.tx_frames.specs.declared.reading.Reading.TheVariants as reading
use Rattle.tx_frames.specs.declared.frame.Wish.{Wish}
use Rattle.tx_frames.specs.declared.frame.Wish.TheVariants as wish
use Rattle.tx_frames.specs.Values.{command_in}

-- an expanded token, within an expanded text or not
abbrev pub expanded_kind : Bool → private.Kind
expanded_kind true = private.ExpandedInText
expanded_kind false = private.Expanded

abbrev pub text_kind : TextKind → private.Kind
text_kind text.Plain = private.Balanced
text_kind text.Expanded = private.ExpandedBalanced
text_kind text.Body = private.Body
text_kind text.ExpandedBody = private.ExpandedBody

abbrev pub kind_in : View → Reading → private.Kind
kind_in view reading.LeftBrace = private.LeftBrace
kind_in view reading.Equals = private.OptionalEquals
kind_in view reading.Number = private.Number
kind_in view (reading.Dimension mu) = private.DimensionOf mu
kind_in view (reading.Glue mu) = private.GlueOf mu
kind_in view (reading.Keyword set) = private.Keyword set
kind_in view (reading.Quantity t s) = private.QuantityFrom (command_in view t s)
kind_in view (reading.Text k) = text_kind k
kind_in view reading.List = private.ListValue

-- the move that is the wish for an item
abbrev pub wished : View → Wish → World → private.Move
wished view wish.Plain w = private.Take w
wished view (wish.Expanded text) w = private.Sub (expanded_kind text) w
wished view (wish.Within r) w = private.Sub (kind_in view r) w
