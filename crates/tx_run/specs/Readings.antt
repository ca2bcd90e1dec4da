-- The open readings of a run, as the definitions have them.
use Rattle.std.specs.Prelude.{◌≡◌, ◌≢◌, ℕ, ◌+◌, Bool, true, false, List, [], ◌∷◌, ◌++◌, map, Option, None}
use Rattle.tx_private.specs.World.{World}
use Rattle.tx_private.specs.Readings as private
use Rattle.tx_private.specs.Reads.{counts}
use Rattle.tx_opens.specs.Opens.{Open, begun}
use Rattle.tx_views.specs.Views.{View}
use Rattle.tx_frames.specs.declared.reading.Reading.{Reading}
use Rattle.tx_frames.specs.declared.reading.Reading.TheVariants as reading
use Rattle.tx_frames.specs.declared.frame.Frame.{Frame}
use Rattle.tx_frames.specs.declared.frame.Frame.TheVariants as frame
use Rattle.tx_frames.specs.declared.frame.Wish.{Wish}
use Rattle.tx_frames.specs.declared.frame.Wish.TheVariants as wish
use Rattle.tx_frames.specs.Kinds.{expanded_kind, kind_in, wished}
use Rattle.tx_frames.specs.Frames as readings
use Rattle.tx_commands.specs.declared.command.Command.{Command}
use Rattle.tx_commands.specs.Commands as commands
use Rattle.tx_commands.specs.Wishes as command_wishes
use Rattle.tx_prims.specs.declared.primitives.Primitive.TheVariants as primitive
use Rattle.tx_views.specs.declared.sense.Sense.TheVariants as sense
use Rattle.tx_run.specs.declared.doing.Start.{Start}
use Rattle.tx_run.specs.declared.doing.Start.TheVariants as start
use Rattle.tx_run.specs.declared.doing.Taker.{Taker}
use Rattle.tx_run.specs.declared.doing.Taker.TheVariants as taker

-- what kind of reading begins
abbrev pub kind_of : View → Start → private.Kind
kind_of view (start.Expanded text) = expanded_kind text
kind_of view (start.Within r) = kind_in view r

-- how a reading of which a frame is the middle began
abbrev pub start_of : Frame → Start
start_of frame.LeftBrace = start.Within reading.LeftBrace
start_of frame.Equals = start.Within reading.Equals
start_of (frame.Scan r s) = start.Within r
start_of (frame.Quantity t a) = start.Within (reading.Quantity t (sense.Primitive (primitive.Assignment a)))
start_of (frame.Text x) = start.Within (reading.Text x.kind)
start_of (frame.List s) = start.Within reading.List
start_of (frame.Expansion text s) = start.Expanded text

-- whether a reading counts, and how many of these do
abbrev pub reading_counts : Reading → ℕ
reading_counts reading.LeftBrace = 0
reading_counts reading.Equals = 0
reading_counts (reading.Quantity t s) = 0
reading_counts reading.List = 0
reading_counts _ = 1

abbrev pub start_counts : Start → ℕ
start_counts (start.Within r) = reading_counts r
start_counts _ = 0

abbrev pub depth_in : List Frame → ℕ
depth_in [] = 0
depth_in (f ∷ frames) = depth_in frames + start_counts (start_of f)

-- the open readings, the innermost first, around main control's command
abbrev pub opens_in : View → List Frame → Command → List Open
opens_in view frames command = map (readings.open_of view) frames ++ commands.open_of view command ∷ []

-- the innermost one, and those around it
abbrev pub innermost : View → List Frame → Command → Open
innermost view [] command = commands.open_of view command
innermost view (f ∷ frames) command = readings.open_of view f

abbrev pub outer : View → List Frame → Command → List Open
outer view [] command = []
outer view (f ∷ frames) command = opens_in view frames command

-- how the innermost one takes its next item
abbrev pub wish_in : List Frame → Command → Wish
wish_in [] command = command_wishes.wish_of command
wish_in (f ∷ frames) command = readings.wish_of f

-- whoever takes a token, and the readings around
abbrev pub taking : View → Taker → List Frame → Command → Open
taking view taker.Innermost frames command = innermost view frames command
taking view (taker.Expanded text) frames command = begun (expanded_kind text)

abbrev pub behind : View → Taker → List Frame → Command → List Open
behind view taker.Innermost frames command = outer view frames command
behind view (taker.Expanded text) frames command = opens_in view frames command

-- the readings that wait for the value of another one
abbrev pub waiting : Taker → List Frame → List Frame
waiting taker.Innermost [] = []
waiting taker.Innermost (f ∷ frames) = frames
waiting (taker.Expanded text) frames = frames

-- a reading waits for a value: it has wished for no token as it stands
abbrev pub WaitsBy : Wish → Type 0
WaitsBy wish.Plain = ⊥
WaitsBy _ = Unit {0}

abbrev pub Waits : Frame → Type 0
Waits f = WaitsBy (readings.wish_of f)

-- the innermost reading, if one is within the command, has wished for a token as it stands
abbrev pub TakesPlain : List Frame → Type 0
TakesPlain [] = Unit {0}
TakesPlain (f ∷ frames) = readings.wish_of f ≡ wish.Plain

abbrev pub Takes : Taker → List Frame → Type 0
Takes taker.Innermost frames = TakesPlain frames
Takes (taker.Expanded text) frames = Unit {0}

-- the innermost reading is one of a number, a dimension, glue or a keyword
abbrev pub is_scan : List Frame → Bool
is_scan (frame.Scan r s ∷ frames) = true
is_scan _ = false

-- the code that goes with a token, where the innermost reading asks for it
abbrev pub letter_given : List Frame → Option ℕ → Option ℕ
letter_given (frame.Scan r s ∷ frames) letter = letter
letter_given _ letter = None
