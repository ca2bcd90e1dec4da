-- What comes of a tick, by what comes of the move that it makes.
use Rattle.std.proofs.Common.{◌≡◌, ℕ, ◌+◌, Bool, true, false, List, [], ◌∷◌, refl, ◌∙◌, ap}
use Rattle.std.proofs.Math.Nat.{le_trans}
use Rattle.tx_node.specs.declared.BoxNode.{BoxNode}
use Rattle.tx_eqtb.specs.Meanings.{Map}
use Rattle.tx_private.specs.World.{World}
use Rattle.tx_private.specs.Reads.{Result, counts}
use Rattle.tx_opens.specs.Opens.{depth_of}
use Rattle.tx_opens.proofs.Follows.{IsNoError, world_of}
use Rattle.tx_views.specs.Views.{View}
use Rattle.tx_frames.specs.declared.reading.TextKind.{TextKind}
use Rattle.tx_frames.specs.declared.reading.TextKind.TheVariants as text
use Rattle.tx_frames.specs.declared.reading.Reading.{Reading}
use Rattle.tx_frames.specs.declared.reading.Reading.TheVariants as reading
use Rattle.tx_frames.specs.declared.frame.Frame.{Frame}
use Rattle.tx_frames.specs.declared.frame.Frame.TheVariants as frame
use Rattle.tx_frames.specs.declared.frame.Wish.{Wish}
use Rattle.tx_frames.specs.declared.frame.Wish.TheVariants as wish
use Rattle.tx_frames.specs.Kinds.{expanded_kind, text_kind, kind_in, wished}
use Rattle.tx_frames.specs.Frames as readings
use Rattle.tx_commands.specs.declared.command.Command.{Command}
use Rattle.tx_scene.specs.declared.scene.Scene.{Scene}
use Rattle.tx_run.specs.declared.doing.Start.{Start}
use Rattle.tx_run.specs.declared.doing.Start.TheVariants as start
use Rattle.tx_run.specs.Readings.{kind_of, start_of, start_counts, reading_counts, depth_in, opens_in}
use Rattle.tx_scene.specs.Scenes.{Ground}
use Rattle.tx_run.specs.declared.op.Tick.{Tick}
use Rattle.tx_run.specs.declared.op.Tick.TheVariants as tick
use Rattle.tx_run.specs.declared.run.Run.{Run}
use Rattle.tx_run.specs.Runs.{Leads, KeepsAll}

-- what follows from what a tick leads to
pub leads-map : (P Q : Result → Type 0) (g : Ground) (frozen : Map BoxNode) (t : Tick) (run : Run) → ((r : Result) → P r → Q r) → Leads P g frozen t run → Leads Q g frozen t run
leads-map P Q g frozen tick.Went run f l = λ r m. f r (l r m)
leads-map P Q g frozen (tick.Ask o) run f l = λ r m. f r (l r m)
leads-map P Q g frozen tick.Done run f l = f _ l
leads-map P Q g frozen tick.Failed run f l = (l.0, f _ l.1, l.2)
leads-map P Q g frozen tick.Spent run f l = f _ l
leads-map P Q g frozen tick.Memory run f l = tt

-- how a reading began, and how many readings count
pub kind-of-frame : (view : View) (f : Frame) → readings.kind_of view f ≡ kind_of view (start_of f)
kind-of-frame view frame.LeftBrace = refl
kind-of-frame view frame.Equals = refl
kind-of-frame view (frame.Scan r s) = refl
kind-of-frame view (frame.Quantity t a) = refl
kind-of-frame view (frame.Text x) = refl
kind-of-frame view (frame.List s) = refl
kind-of-frame view (frame.Expansion text s) = refl

text-counts : (k : TextKind) → counts (text_kind k) ≡ 1
text-counts text.Plain = refl
text-counts text.Expanded = refl
text-counts text.Body = refl
text-counts text.ExpandedBody = refl

pub reading-counts : (view : View) (r : Reading) → counts (kind_in view r) ≡ reading_counts r
reading-counts view reading.LeftBrace = refl
reading-counts view reading.Equals = refl
reading-counts view reading.Number = refl
reading-counts view (reading.Dimension mu) = refl
reading-counts view (reading.Glue mu) = refl
reading-counts view (reading.Keyword set) = refl
reading-counts view (reading.Quantity t s) = refl
reading-counts view (reading.Text k) = text-counts k
reading-counts view reading.List = refl

expanded-counts : (text : Bool) → counts (expanded_kind text) ≡ 0
expanded-counts true = refl
expanded-counts false = refl

pub start-counts : (view : View) (s : Start) → counts (kind_of view s) ≡ start_counts s
start-counts view (start.Expanded text) = expanded-counts text
start-counts view (start.Within r) = reading-counts view r

pub depth-of-opens : (view : View) (frames : List Frame) (command : Command) → depth_of (opens_in view frames command) ≡ depth_in frames
depth-of-opens view [] command = refl
depth-of-opens view (f ∷ frames) command =
    ap (λ n. n + counts (readings.kind_of view f)) (depth-of-opens view frames command)
    ∙ ap (λ n. depth_in frames + n) (ap counts (kind-of-frame view f) ∙ start-counts view (start_of f))

-- no wish is an error, and its world is the present one
pub wished-no-error : (view : View) (how : Wish) (w : World) → IsNoError (wished view how w)
wished-no-error view wish.Plain w = tt
wished-no-error view (wish.Expanded text) w = tt
wished-no-error view (wish.Within r) w = tt

pub wished-world : (view : View) (how : Wish) (w : World) → world_of (wished view how w) ≡ w
wished-world view wish.Plain w = refl
wished-world view (wish.Expanded text) w = refl
wished-world view (wish.Within r) w = refl

-- what two calls one after another keep
pub keeps-then : (a : Scene) (m : ℕ) (b : Scene) (n : ℕ) (c : Scene) (o : ℕ) → KeepsAll a m b n → KeepsAll b n c o → KeepsAll a m c o
keeps-then a m b n c o first second = record {
  ground = λ g is. second.ground g (first.ground g is);
  before = λ frozen q. second.before frozen q ∙ first.before frozen q;
  names = second.names ∙ first.names;
  budget = second.budget ∙ first.budget;
  left = le_trans second.left first.left;
}
