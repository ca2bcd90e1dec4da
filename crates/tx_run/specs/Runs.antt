-- What a run means: how the region goes on from here.
use Rattle.std.specs.Prelude.{◌≡◌, ℕ, ◌+◌, ◌-◌, ◌*◌, ◌^◌, ◌<◌, ◌≤◌, Bool, false, List, [], ◌∷◌, map, length, drop, Option, Some, None, IsSome, get_or}
use Rattle.std.specs.List.{AllByRecursion}
use Rattle.tx_tok.specs.declared.tok.Tok.TheVariants as tok
use Rattle.tx_tok.specs.declared.tok.ListRef.TheVariants as list
use Rattle.tx_node.specs.declared.BoxNode.{BoxNode}
use Rattle.tx_eqtb.specs.Meanings.{Map, meanings}
use Rattle.tx_eqtb.specs.Steps.{KeepsBefore}
use Rattle.tx_format.specs.declared.state.Engineless.{Engineless}
use Rattle.tx_frames.specs.declared.frame.Frame.{Frame}
use Rattle.tx_tok.specs.declared.tok.Tok.{Tok}
use Rattle.tx_model.specs.declared.reply.Status.TheVariants as status
use Rattle.tx_scan.specs.Scans.{category_by}
use Rattle.tx_private.specs.Errors.{Error}
use Rattle.tx_private.specs.World.{World, Failure, failure, put_in_front}
use Rattle.tx_private.specs.Readings as private
use Rattle.tx_private.specs.Reads.{Result, Gave, Failed, Spent}
use Rattle.tx_private.specs.Moves.{move_in}
use Rattle.tx_private.specs.Region.{State, started, outcome_of, outcome_by}
use Rattle.tx_private.specs.Scans.{letter_of}
use Rattle.tx_private.specs.Texts.{tokens_of}
use Rattle.tx_private.specs.Assignments.{assigns}
use Rattle.tx_opens.specs.Opens.{Open, begun, depth_of, Comes, ComesGiven}
use Rattle.tx_views.specs.Views.{View, viewed, all_viewed, list_in}
use Rattle.tx_views.specs.Places.{address_in}
use Rattle.tx_views.specs.Meanings.{meaning_in}
use Rattle.tx_assign.specs.Assigned.{prefixes_in}
use Rattle.tx_environment.specs.Soundness.{IsSound, IsClosing, IsFirst}
use Rattle.tx_environment.specs.Steps.{IsOpen, IsOutermost}
use Rattle.tx_input.specs.Owned.{Own, error_of}
use Rattle.tx_input.specs.Worlds.{present, wanted_text}
use Rattle.tx_input.specs.Takings.{limit_in, Agrees}
use Rattle.tx_describe.specs.Descriptions.{text_in, wants}
use Rattle.tx_frames.specs.declared.answer.Answer.{Answer}
use Rattle.tx_frames.specs.Answers as readings
use Rattle.tx_frames.specs.Frames as frames
use Rattle.tx_commands.specs.declared.outcome.Outcome.{Outcome}
use Rattle.tx_commands.specs.Outcomes as commands
use Rattle.tx_frames.specs.Values.{value_in}
use Rattle.tx_frames.specs.Kinds.{wished}
use Rattle.tx_scene.specs.declared.scene.Scene.{Scene}
use Rattle.tx_scene.specs.Scenes.{Ground, IsGround, world}
use Rattle.tx_scene.specs.Changes.{closing, KeepsGround}
use Rattle.tx_run.specs.declared.doing.Start.{Start}
use Rattle.tx_run.specs.declared.doing.Taker.{Taker}
use Rattle.tx_run.specs.declared.doing.Taker.TheVariants as taker
use Rattle.tx_run.specs.declared.doing.Doing.{Doing}
use Rattle.tx_run.specs.declared.doing.Doing.TheVariants as doing
use Rattle.tx_run.specs.declared.doing.Told.{Told}
use Rattle.tx_run.specs.declared.doing.Told.TheVariants as told
use Rattle.tx_describe.specs.declared.rest.Wanted.{Wanted}
use Rattle.tx_describe.specs.declared.rest.Wanted.TheVariants as wanted
use Rattle.tx_run.specs.declared.op.Op.{Op}
use Rattle.tx_run.specs.declared.op.Op.TheVariants as op
use Rattle.tx_run.specs.declared.op.Tick.{Tick}
use Rattle.tx_run.specs.declared.op.Tick.TheVariants as tick
use Rattle.tx_run.specs.declared.run.Run.{Run}
use Rattle.tx_run.specs.Readings.{kind_of, opens_in, innermost, outer, wish_in, taking, behind, waiting, Waits, Takes as TakesBy, letter_given}
use Rattle.tx_run.specs.Doings.{used, tells, stored_meaning, hang_after_first, TakesName}

-- the open readings of a run
abbrev pub opens : View → Run → List Open
opens view run = opens_in view run.frames run.command

-- the world in which a reading of this kind is open within these
abbrev pub world_in : Ground → Map BoxNode → private.Kind → List Open → Run → World
world_in g frozen k around run = world g frozen (depth_of (begun k ∷ around)) run.scene

-- the world in which the innermost reading is open
abbrev pub world_now : Ground → Map BoxNode → Run → World
world_now g frozen run = world g frozen (depth_of (opens g.view run)) run.scene

-- any reading of this kind, within these, comes to this by a move
abbrev pub AnyComes : Ground → Map BoxNode → private.Kind → List Open → (World → private.Move) → Run → Result → Type 0
AnyComes g frozen k around move run r = (o : Open) → o.kind ≡ k → Comes o around (move (world_in g frozen k around run)) r

-- the same of main control
abbrev pub ControlComes : Ground → Map BoxNode → (World → private.Move) → Run → Result → Type 0
ControlComes g frozen move run r = AnyComes g frozen private.Control [] move run r

-- any reading at all ends with a value
abbrev pub AnyEnds : Ground → Map BoxNode → private.Value → Run → Result → Type 0
AnyEnds g frozen value run r = (o : Open) (depth : ℕ) → Comes o (opens g.view run) (private.Done value (world g frozen depth run.scene)) r

-- whoever takes a token is given one
abbrev pub ComesTaken : Ground → Map BoxNode → Taker → Tok → Run → Result → Type 0
ComesTaken g frozen who t run r =
    let w = world_now g frozen run in
    ComesGiven (taking g.view who run.frames run.command) (private.Tok (present w (viewed g.view t))) (behind g.view who run.frames run.command) w r

-- whatever the depth, the region has failed by this error
abbrev pub FailsNow : Map BoxNode → Error → Ground → Scene → Result → Type 0
FailsNow frozen error g s r = (depth : ℕ) → Failed (failure error (world g frozen depth s)) ≡ r

-- a text is told by main control, or by an error wherever it is met
abbrev pub ComesTold : Ground → Map BoxNode → Told → List ℕ → Run → Result → Type 0
ComesTold g frozen told.Log text run r = ControlComes g frozen (tells told.Log text) run r
ComesTold g frozen (told.Error number) text run r = (o : Open) (around : List Open) (depth : ℕ) → Comes o around (tells (told.Error number) text (world g frozen depth run.scene)) r

-- What comes of what the run is about to do.
abbrev pub Does : Ground → Map BoxNode → Doing → Run → Result → Type 0
Does g frozen doing.Wishes run r =
    Comes (innermost g.view run.frames run.command) (outer g.view run.frames run.command) (wished g.view (wish_in run.frames run.command) (world_now g frozen run)) r
Does g frozen doing.Restarts run r = ControlComes g frozen private.Again run r
Does g frozen (doing.Begins s) run r = AnyComes g frozen (kind_of g.view s) (opens g.view run) private.Again run r
Does g frozen (doing.Gives v) run r = AnyEnds g frozen (value_in g.view v) run r
Does g frozen (doing.GivesList list) run r = AnyEnds g frozen (private.Tokens (list_in g.view list)) run r
Does g frozen (doing.Finds who) run r =
    TakesName (taking g.view who run.frames run.command) (behind g.view who run.frames run.command) (wanted_text run.scene.input) (world_now g frozen run) r
Does g frozen (doing.Interns who) run r =
    TakesName (taking g.view who run.frames run.command) (behind g.view who run.frames run.command) (wanted_text run.scene.input) (world_now g frozen run) r
Does g frozen (doing.Full limit) run r = FailsNow frozen (error_of limit) g run.scene r
Does g frozen (doing.Took who t) run r = ComesTaken g frozen who t run r
Does g frozen (doing.Letter n) run r = ComesTaken g frozen taker.Innermost (tok.Name n) run r
Does g frozen (doing.Lettered t letter) run r =
    letter_given run.frames letter ≡ letter_given run.frames (letter_of (viewed g.view t)) → ComesTaken g frozen taker.Innermost t run r
Does g frozen (doing.Reads s how id) run r = AnyComes g frozen (kind_of g.view s) (opens g.view run) (used how (list_in g.view (list.Pooled id))) run r
Does g frozen (doing.Copies s how tokens) run r = AnyComes g frozen (kind_of g.view s) (opens g.view run) (used how (all_viewed g.view tokens)) run r
Does g frozen (doing.Prints s d) run r =
    AnyComes g frozen (kind_of g.view s) (opens g.view run) (λ w. private.Again (put_in_front (tokens_of (text_in g.view run.scene.environment.cats d)) w)) run r
Does g frozen (doing.Tells what d) run r = ComesTold g frozen what (text_in g.view run.scene.environment.cats d) run r
Does g frozen (doing.Shares p place what tokens) run r =
    ControlComes g frozen (assigns (prefixes_in p) (address_in g.view place) (stored_meaning what (all_viewed g.view tokens))) run r
Does g frozen (doing.Takes p place m id) run r = ControlComes g frozen (assigns (prefixes_in p) (address_in g.view place) (meaning_in g.view m)) run r
Does g frozen (doing.Assigns p place m) run r = ControlComes g frozen (assigns (prefixes_in p) (address_in g.view place) (meaning_in g.view m)) run r
Does g frozen doing.Closes run r = ControlComes g frozen closing run r
Does g frozen doing.Straightens run r = ControlComes g frozen (λ w. private.Again (hang_after_first w)) run r
Does g frozen doing.NoMemory run r = ⊥

-- how the region goes on from a run
abbrev pub Means : Ground → Map BoxNode → Run → Result → Type 0
Means g frozen run r = Does g frozen run.doing run r

-- a region that began so comes to this
abbrev pub ComesFrom : State → Bool → List ℕ → ℕ → Result → Type 0
ComesFrom s preamble text budget r = Comes (begun private.Control) [] (move_in private.Control [] (started s preamble text budget)) r

-- the world that is left at the end
abbrev pub last_world : Ground → Map BoxNode → Run → World
last_world g frozen run = world g frozen 0 run.scene

-- what came of a tick is so of what a run means after it
abbrev pub Leads : (Result → Type 0) → Ground → Map BoxNode → Tick → Run → Type 0
Leads P g frozen tick.Went run = (r : Result) → Means g frozen run r → P r
Leads P g frozen (tick.Ask op) run = (r : Result) → Means g frozen run r → P r
Leads P g frozen tick.Done run = P (Gave private.TextEnd (last_world g frozen run))
Leads P g frozen tick.Failed run = (f : Failure) × P (Failed f) × (outcome_of (Failed f) ≡ outcome_by status.Fail (last_world g frozen run).output)
Leads P g frozen tick.Spent run = P (Spent (last_world g frozen run).output)
Leads P g frozen tick.Memory run = Unit {0}

-- The environment is sound, unless a group is ending. Where memory was wanting only the first categories matter.
abbrev pub IsSoundFor : Map BoxNode → Doing → Scene → Type 0
IsSoundFor frozen doing.Closes s = IsClosing frozen s.environment × IsOpen s.environment
IsSoundFor frozen (doing.Finds who) s = IsSound frozen s.environment × IsSome s.input.wanted
IsSoundFor frozen (doing.Interns who) s = IsSound frozen s.environment × IsSome s.input.wanted × (limit_in s.input ≡ None)
IsSoundFor frozen doing.NoMemory s = IsFirst frozen s.environment
IsSoundFor frozen _ s = IsSound frozen s.environment

-- the readings that wait for a value have wished for one
abbrev pub AreWaiting : Doing → List Frame → Type 0
AreWaiting doing.Wishes frames = AllByRecursion Waits (waiting taker.Innermost frames)
AreWaiting (doing.Finds who) frames = TakesBy who frames × AllByRecursion Waits (waiting who frames)
AreWaiting (doing.Interns who) frames = TakesBy who frames × AllByRecursion Waits (waiting who frames)
AreWaiting (doing.Took who t) frames = TakesBy who frames × AllByRecursion Waits (waiting who frames)
AreWaiting (doing.Letter n) frames = TakesBy taker.Innermost frames × AllByRecursion Waits (waiting taker.Innermost frames)
AreWaiting (doing.Lettered t letter) frames = TakesBy taker.Innermost frames × AllByRecursion Waits (waiting taker.Innermost frames)
AreWaiting (doing.Shares p place what tokens) frames = frames ≡ []
AreWaiting (doing.Takes p place m id) frames = frames ≡ []
AreWaiting (doing.Assigns p place m) frames = frames ≡ []
AreWaiting doing.Restarts frames = frames ≡ []
AreWaiting doing.Closes frames = frames ≡ []
AreWaiting doing.Straightens frames = frames ≡ []
AreWaiting (doing.Full limit) frames = Unit {0}
AreWaiting doing.NoMemory frames = Unit {0}
AreWaiting _ frames = AllByRecursion Waits frames

-- what is so of the run after a tick that ends no region, and what of the environment after one that does
abbrev pub IsSoundAfter : Map BoxNode → Tick → Run → Type 0
IsSoundAfter frozen tick.Went run = IsSoundFor frozen run.doing run.scene × AreWaiting run.doing run.frames
IsSoundAfter frozen (tick.Ask op) run = IsSoundFor frozen run.doing run.scene × AreWaiting run.doing run.frames
IsSoundAfter frozen tick.Done run = IsSound frozen run.scene.environment × IsOutermost run.scene.environment
IsSoundAfter frozen _ run = IsFirst frozen run.scene.environment

-- how many ticks are left at the most, where so many may come before the next token is taken
abbrev pub ticks_left : Scene → ℕ → ℕ
ticks_left s moves = (s.input.steps.budget - s.input.steps.spent) * 2 ^ 32 + moves

abbrev pub left : Run → ℕ
left run = ticks_left run.scene run.moves

-- what every call keeps
pub record KeepsAll (old : Scene) (old_moves : ℕ) (new : Scene) (new_moves : ℕ) : Type 0 where
  pub ground : KeepsGround old new
  pub before : KeepsBefore old.environment.table new.environment.table
  pub names : new.input.names ≡ old.input.names
  pub budget : new.input.steps.budget ≡ old.input.steps.budget
  pub left : ticks_left new new_moves ≤ ticks_left old old_moves

abbrev pub Keeps : Run → Run → Type 0
Keeps old new = KeepsAll old.scene old.moves new.scene new.moves

-- the ground reads the lists of a format, too
pub record IsGroundOf (format : Engineless) (g : Ground) (s : Scene) : Type 0 where
  pub ground : IsGround g s
  pub lists : (k : ℕ) → k < length format.lists → g.view.content (list.Frozen k) ≡ get_or format.lists k []

-- what a run means is known, over a format
abbrev pub LeadsFor : Engineless → (Ground → Result → Type 0) → Scene → Tick → Run → Type 0
LeadsFor format P old tick new = (g : Ground) → IsGroundOf format g old → Leads (P g) g (meanings format.frozen) tick new

-- An error that has ended the region is one of the definitions', whichever it is.
abbrev pub FailsLawfully : Engineless → Scene → Tick → Run → Type 0
FailsLawfully format old tick new = LeadsFor format (λ g r. Unit {0}) old tick new

-- An answer is carried out: whatever reading of this kind gave it, and whatever move it says.
abbrev pub CarriesOut : Engineless → Start → Answer → Run → Tick → Run → Type 0
CarriesOut format begun answer old tick new =
    (g : Ground) → IsGroundOf format g old.scene → (o : Open) (m : private.Move) → o.kind ≡ kind_of g.view begun
    → readings.Becomes g.view o m (world_in g (meanings format.frozen) (kind_of g.view begun) (opens g.view old) old) answer
    → Leads (Comes o (opens g.view old) m) g (meanings format.frozen) tick new

-- The same of what came of main control.
abbrev pub Concludes : Engineless → Outcome → Run → Tick → Run → Type 0
Concludes format outcome old tick new =
    (g : Ground) → IsGroundOf format g old.scene → (o : Open) (m : private.Move) → o.kind ≡ private.Control
    → commands.Becomes g.view o m (world_in g (meanings format.frozen) private.Control [] old) outcome
    → Leads (Comes o [] m) g (meanings format.frozen) tick new

-- what a description asks for, which may be a list of the format, that needs no operation
abbrev pub asked_for : Option Wanted → Option Op
asked_for (Some (wanted.Text n)) = Some (op.Text n)
asked_for (Some (wanted.Content id)) = Some (op.Read id)
asked_for _ = None

-- what is asked for by what is about to be done
abbrev pub asked_by : Doing → Option Op
asked_by (doing.Finds who) = Some op.Find
asked_by (doing.Interns who) = Some op.Intern
asked_by (doing.Letter n) = Some (op.Text n)
asked_by (doing.Reads s how id) = Some (op.Read id)
asked_by (doing.Prints s d) = asked_for (wants d)
asked_by (doing.Tells what d) = asked_for (wants d)
asked_by (doing.Shares p place what tokens) = Some op.Share
asked_by (doing.Takes p place m id) = Some (op.Take id)
asked_by _ = None

-- the operation that a run has asked for: what has fallen away is released first
abbrev pub asked_after : Option ℕ → Doing → Option Op
asked_after (Some id) d = Some (op.Release id)
asked_after None d = asked_by d

abbrev pub asked : Run → Option Op
asked run = asked_after run.fallen run.doing

-- A tick that asks for an operation asks for the one that is due.
abbrev pub IsAsked : Tick → Run → Type 0
IsAsked (tick.Ask o) run = asked run ≡ Some o
IsAsked _ run = Unit {0}

-- what a run means after an answer is what it meant before
abbrev pub Answers : Ground → Run → Run → Type 0
Answers g old new = (frozen : Map BoxNode) (r : Result) → Means g frozen new r → Means g frozen old r

-- the session's own names from before come behind the new one, if there is one
abbrev pub IsGrown : Own → Own → Type 0
IsGrown old new = (length old ≤ length new) × (drop (length new - length old) new ≡ old)

-- what an answer keeps
pub record AnswerKeeps (old new : Run) : Type 0 where
  pub environment : new.scene.environment ≡ old.scene.environment
  pub sound : (frozen : Map BoxNode) → IsSoundFor frozen old.doing old.scene → IsSoundFor frozen new.doing new.scene
  pub waits : AreWaiting old.doing old.frames → AreWaiting new.doing new.frames
  pub steps : new.scene.input.steps ≡ old.scene.input.steps
  pub moves : new.moves ≡ old.moves - 1
  pub names : IsGrown old.scene.input.names new.scene.input.names

-- the list that is to be shared
abbrev pub shared_tokens : Doing → Option (List Tok)
shared_tokens (doing.Shares p place what tokens) = Some tokens
shared_tokens _ = None

-- an operation is one of these
abbrev pub IsForText : Op → Type 0
IsForText (op.Text n) = Unit {0}
IsForText _ = ⊥

abbrev pub IsForList : Op → Type 0
IsForList (op.Read id) = Unit {0}
IsForList _ = ⊥

abbrev pub IsForTake : Op → Type 0
IsForTake (op.Take id) = Unit {0}
IsForTake _ = ⊥

-- the region goes on
abbrev pub IsGoing : Tick → Type 0
IsGoing tick.Went = Unit {0}
IsGoing (tick.Ask o) = Unit {0}
IsGoing _ = ⊥

-- The innermost reading is given the end of the text in place of a token; so is whoever takes an expanded one.
abbrev pub ComesEnded : Ground → Map BoxNode → Taker → Run → Result → Type 0
ComesEnded g frozen who run r =
    ComesGiven (taking g.view who run.frames run.command) private.End (behind g.view who run.frames run.command) (world_now g frozen run) r

-- A reading that takes a token as it stands is given this item, within the readings that are open.
abbrev pub ComesPlain : Ground → Map BoxNode → Frame → private.Item → Run → Result → Type 0
ComesPlain g frozen f i run r =
    ComesGiven (frames.open_of g.view f) i (opens g.view run) (world g frozen (depth_of (frames.open_of g.view f ∷ opens g.view run)) run.scene) r
