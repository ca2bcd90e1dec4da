-- What comes of wishes, of readings that begin, of ticks, and of answers to them.
use Rattle.std.proofs.Common.{◌≡◌, ℕ, ◌+◌, ◌<◌, ◌≤◌, pos, Bool, true, false, nat_lt, List, [], ◌∷◌, Option, Some, None, IsSomeAnd, unwrap_or, arith, refl, sym, ◌∙◌, ap, subst}
use Rattle.std.proofs.Math.Nat.{add-zero}
use Rattle.std.proofs.lemmas.Bool.{le-ltb, lt-ltb}
use Rattle.std.specs.List.{AllByRecursion}
use Rattle.tx_tok.specs.declared.tok.Tok.{Tok}
use Rattle.tx_tok.specs.declared.tok.ListRef.{ListRef}
use Rattle.tx_tok.specs.declared.tok.ListRef.TheVariants as list
use Rattle.tx_scan.specs.declared.cats.Cats.{Cats}
use Rattle.tx_node.specs.declared.BoxNode.{BoxNode}
use Rattle.tx_eqtb.specs.Meanings.{Map}
use Rattle.tx_model.specs.Tokens.{Name}
use Rattle.tx_private.specs.Errors.{numbered}
use Rattle.tx_private.specs.World.{World, failure, is_overfull, Takes, Spends, taking, making}
use Rattle.tx_private.specs.Readings as private
use Rattle.tx_private.specs.Reads.{Result, Failed, Spent, counts}
use Rattle.tx_private.specs.Moves.{move_in}
use Rattle.tx_opens.specs.Opens.{Open, begun, depth_of, Comes, ComesGiven}
use Rattle.tx_opens.proofs.Opens.{comes-within, comes-too-deep, comes-overfull, comes-again, comes-token, comes-spent}
use Rattle.tx_views.specs.Views.{View, viewed, all_viewed}
use Rattle.tx_environment.specs.States.{State}
use Rattle.tx_input.specs.Worlds.{present, new_text}
use Rattle.tx_describe.specs.declared.description.Description.{Description}
use Rattle.tx_describe.specs.declared.rest.Wanted.{Wanted}
use Rattle.tx_describe.specs.declared.rest.Wanted.TheVariants as wanted
use Rattle.tx_describe.specs.Rests.{content_wanted}
use Rattle.tx_describe.specs.Descriptions.{text_in, wants}
use Rattle.tx_frames.specs.declared.frame.Frame.{Frame}
use Rattle.tx_frames.specs.declared.frame.Wish.{Wish}
use Rattle.tx_frames.specs.declared.frame.Wish.TheVariants as wish
use Rattle.tx_frames.specs.Kinds.{expanded_kind, wished}
use Rattle.tx_commands.specs.declared.command.Command.{Command}
use Rattle.tx_commands.specs.Outcomes.{Begins}
use Rattle.tx_scene.specs.declared.scene.Scene.{Scene}
use Rattle.tx_scene.specs.Scenes.{Ground, world}
use Rattle.tx_scene.specs.Changes.{KeepsGround}
use Rattle.tx_run.specs.declared.run.Run.{Run}
use Rattle.tx_run.specs.declared.doing.Start.{Start}
use Rattle.tx_run.specs.declared.doing.Start.TheVariants as start
use Rattle.tx_run.specs.declared.doing.Taker.TheVariants as taker
use Rattle.tx_run.specs.declared.doing.Use.{Use}
use Rattle.tx_run.specs.declared.doing.Told.TheVariants as told
use Rattle.tx_run.specs.declared.doing.Doing.{Doing}
use Rattle.tx_run.specs.declared.doing.Doing.TheVariants as doing
use Rattle.tx_run.specs.declared.op.Op.{Op}
use Rattle.tx_run.specs.declared.op.Op.TheVariants as op
use Rattle.tx_run.specs.declared.op.Tick.{Tick}
use Rattle.tx_run.specs.declared.op.Tick.TheVariants as tick
use Rattle.tx_run.specs.Readings.{kind_of, start_counts, depth_in, opens_in, innermost, outer, wish_in, waiting, Waits, WaitsBy, TakesPlain}
use Rattle.tx_run.specs.Doings.{TakesName, used}
use Rattle.tx_run.specs.Runs.{opens, world_now, world_in, AnyComes, ControlComes, FailsNow, Does, Means, Leads, IsSoundFor, AreWaiting, IsSoundAfter, ticks_left, KeepsAll, Keeps, asked_for, asked_by, asked_after, asked, IsAsked}
use Rattle.tx_run.proofs.RunLemmas.{start-counts, depth-of-opens, wished-no-error, wished-world}
use Rattle.tx_run.proofs.CommandLemmas.{before-same, keeps-same, command-wishes}
use Rattle.tx_run.proofs.TextLemmas.{prints-on}

-- the innermost reading and those around it are the open ones
pub opens-split : (view : View) (frames : List Frame) (command : Command) → opens_in view frames command ≡ innermost view frames command ∷ outer view frames command
opens-split view [] command = refl
opens-split view (f ∷ frames) command = refl

-- more tokens are pending than may be: at a wish, where a reading begins, and where one ends
pub wish-overfull : (g : Ground) (frozen : Map BoxNode) (run : Run) (r : Result) → is_overfull (world_now g frozen run) ≡ true → FailsNow frozen (numbered 57 4 (pos 0)) g run.scene r → Does g frozen doing.Wishes run r
wish-overfull g frozen run r over fails =
    let how = wish_in run.frames run.command in
    let w = world_now g frozen run in
    comes-overfull (innermost g.view run.frames run.command) (outer g.view run.frames run.command) (wished g.view how w) r (wished-no-error g.view how w)
    (ap is_overfull (wished-world g.view how w) ∙ over)
    (ap (λ v. Failed (failure (numbered 57 4 (pos 0)) v)) (wished-world g.view how w) ∙ fails (depth_of (opens g.view run)))

pub begin-overfull : (g : Ground) (frozen : Map BoxNode) (k : private.Kind) (around : List Open) (run : Run) (r : Result) → is_overfull (world_in g frozen k around run) ≡ true → FailsNow frozen (numbered 57 4 (pos 0)) g run.scene r → AnyComes g frozen k around private.Again run r
begin-overfull g frozen k around run r over fails o kind =
    comes-overfull o around (private.Again (world_in g frozen k around run)) r tt over (fails (depth_of (begun k ∷ around)))

-- a reading that begins
pub begins : (g : Ground) (frozen : Map BoxNode) (k : private.Kind) (around : List Open) (run : Run) (r : Result) → is_overfull (world_in g frozen k around run) ≡ false → Comes (begun k) around (move_in k [] (world_in g frozen k around run)) r → AnyComes g frozen k around private.Again run r
begins g frozen k around run r room comes o kind =
    comes-again o around (world_in g frozen k around run) r room
    (subst (λ j. Comes (begun j) around (move_in j [] (world_in g frozen k around run)) r) (sym kind) comes)

-- a reading that is wished for
pub wishes-within : (g : Ground) (frozen : Map BoxNode) (k : private.Kind) (run : Run) (r : Result) → is_overfull (world_now g frozen run) ≡ false → nat_lt 500 (depth_of (opens g.view run) + counts k) ≡ false → Comes (begun k) (opens g.view run) (move_in k [] (world_in g frozen k (opens g.view run) run)) r → Comes (innermost g.view run.frames run.command) (outer g.view run.frames run.command) (private.Sub k (world_now g frozen run)) r
wishes-within g frozen k run r room shallow comes =
    comes-within (innermost g.view run.frames run.command) k (outer g.view run.frames run.command) (world_now g frozen run) r room shallow
    (ap depth_of (opens-split g.view run.frames run.command))
    (subst (λ around. Comes (begun k) around (move_in k [] (world_in g frozen k (opens g.view run) run)) r) (opens-split g.view run.frames run.command) comes)

-- who has wished for no token as it stands waits for a value, as all around it do
pub all-wait : (frames : List Frame) (command : Command) → WaitsBy (wish_in frames command) → AllByRecursion Waits (waiting taker.Innermost frames) → AllByRecursion Waits frames
all-wait [] command w all = tt
all-wait (f ∷ frames) command w all = (w, all)

pub takes-plain : (frames : List Frame) (command : Command) → wish_in frames command ≡ wish.Plain → TakesPlain frames
takes-plain [] command e = tt
takes-plain (f ∷ frames) command e = e

-- how deep a reading would be that begins so within those that are open
depth-within : (view : View) (frames : List Frame) (command : Command) (s : Start) → depth_of (opens_in view frames command) + counts (kind_of view s) ≡ depth_in frames + start_counts s
depth-within view frames command s =
    ap (λ n. n + counts (kind_of view s)) (depth-of-opens view frames command) ∙ ap (λ n. depth_in frames + n) (start-counts view s)

pub is-shallow : (view : View) (frames : List Frame) (command : Command) (s : Start) → depth_in frames + start_counts s ≤ 500 → nat_lt 500 (depth_of (opens_in view frames command) + counts (kind_of view s)) ≡ false
is-shallow view frames command s few = ap (nat_lt 500) (depth-within view frames command s) ∙ le-ltb 500 (depth_in frames + start_counts s) few

pub is-deep : (view : View) (frames : List Frame) (command : Command) (s : Start) → 500 < depth_in frames + start_counts s → nat_lt 500 (depth_of (opens_in view frames command) + counts (kind_of view s)) ≡ true
is-deep view frames command s many = ap (nat_lt 500) (depth-within view frames command s) ∙ lt-ltb 500 (depth_in frames + start_counts s) many

-- the wish is this one
pub wishes-as : (g : Ground) (frozen : Map BoxNode) (run : Run) (how : Wish) (t : Tick) (new : Run) → wish_in run.frames run.command ≡ how → Leads (Comes (innermost g.view run.frames run.command) (outer g.view run.frames run.command) (wished g.view how (world_now g frozen run))) g frozen t new → Leads (Does g frozen doing.Wishes run) g frozen t new
wishes-as g frozen run how t new e l =
    subst (λ (h : Wish). Leads (Comes (innermost g.view run.frames run.command) (outer g.view run.frames run.command) (wished g.view h (world_now g frozen run))) g frozen t new) (sym e) l

-- it is one too many
pub wishes-too-deep : (g : Ground) (frozen : Map BoxNode) (s : Start) (run : Run) (r : Result) → is_overfull (world_now g frozen run) ≡ false → 500 < depth_in run.frames + start_counts s → FailsNow frozen (numbered 57 6 (pos 0)) g run.scene r → Comes (innermost g.view run.frames run.command) (outer g.view run.frames run.command) (private.Sub (kind_of g.view s) (world_now g frozen run)) r
wishes-too-deep g frozen s run r room many fails =
    comes-too-deep (innermost g.view run.frames run.command) (kind_of g.view s) (outer g.view run.frames run.command) (world_now g frozen run) r room (is-deep g.view run.frames run.command s many) (fails (depth_of (opens g.view run)))

-- an expanded token begins with the wish for a token
expanded-begins : (g : Ground) (frozen : Map BoxNode) (text : Bool) (around : List Open) (run : Run) (r : Result) → Comes (begun (expanded_kind text)) around (private.Take (world g frozen (depth_of around) run.scene)) r → Comes (begun (expanded_kind text)) around (move_in (expanded_kind text) [] (world_in g frozen (expanded_kind text) around run)) r
unfolding move_in
expanded-begins g frozen true around run r comes =
    subst (λ depth. Comes (begun private.ExpandedInText) around (private.Take (world g frozen depth run.scene)) r) (sym (add-zero (depth_of around))) comes
expanded-begins g frozen false around run r comes =
    subst (λ depth. Comes (begun private.Expanded) around (private.Take (world g frozen depth run.scene)) r) (sym (add-zero (depth_of around))) comes

pub wishes-expanded : (g : Ground) (frozen : Map BoxNode) (text : Bool) (run : Run) (r : Result) → is_overfull (world_now g frozen run) ≡ false → depth_in run.frames ≤ 500 → Comes (begun (expanded_kind text)) (opens g.view run) (private.Take (world_now g frozen run)) r → Comes (innermost g.view run.frames run.command) (outer g.view run.frames run.command) (private.Sub (expanded_kind text) (world_now g frozen run)) r
wishes-expanded g frozen text run r room few comes =
    wishes-within g frozen (expanded_kind text) run r room (is-shallow g.view run.frames run.command (start.Expanded text) (subst (λ n. n ≤ 500) (sym (add-zero (depth_in run.frames))) few)) (expanded-begins g frozen text (opens g.view run) run r comes)

pub begins-expanded : (g : Ground) (frozen : Map BoxNode) (text : Bool) (run : Run) (r : Result) → is_overfull (world_in g frozen (expanded_kind text) (opens g.view run) run) ≡ false → Comes (begun (expanded_kind text)) (opens g.view run) (private.Take (world_now g frozen run)) r → AnyComes g frozen (expanded_kind text) (opens g.view run) private.Again run r
begins-expanded g frozen text run r room comes =
    begins g frozen (expanded_kind text) (opens g.view run) run r room (expanded-begins g frozen text (opens g.view run) run r comes)

-- main control begins by the wish of a command that says the same
pub region-begins : (g : Ground) (frozen : Map BoxNode) (s : Scene) (frames : List Frame) (c : Command) (w : World) (r : Result) → frames ≡ [] → world g frozen 0 s ≡ w → Begins g.view c (world g frozen 0 s) → Comes (innermost g.view frames c) (outer g.view frames c) (wished g.view (wish_in frames c) (world g frozen (depth_of (opens_in g.view frames c)) s)) r → Comes (begun private.Control) [] (move_in private.Control [] w) r
region-begins g frozen s frames c w r none is how comes =
    subst (λ v. Comes (begun private.Control) [] (move_in private.Control [] v) r) is
    (command-wishes g frozen s frames c (begun private.Control) (move_in private.Control [] (world g frozen 0 s)) r none how.0 how.1 comes)

-- so it does again
pub control-begins : (g : Ground) (frozen : Map BoxNode) (s : Scene) (frames : List Frame) (c : Command) (run : Run) (r : Result) → run.scene ≡ s → frames ≡ [] → is_overfull (world g frozen 0 s) ≡ false → Begins g.view c (world g frozen 0 s) → Comes (innermost g.view frames c) (outer g.view frames c) (wished g.view (wish_in frames c) (world g frozen (depth_of (opens_in g.view frames c)) s)) r → ControlComes g frozen private.Again run r
control-begins g frozen s frames c run r e none room how comes o kind =
    subst (λ (x : Scene). Comes o [] (private.Again (world g frozen 0 x)) r) (sym e)
    (comes-again o [] (world g frozen 0 s) r room
    (subst (λ k. Comes (begun k) [] (move_in k [] (world g frozen 0 s)) r) (sym kind)
    (region-begins g frozen s frames c (world g frozen 0 s) r none refl how comes)))

-- a token comes, with its present meaning
pub takes-token : (g : Ground) (frozen : Map BoxNode) (o : Open) (around : List Open) (depth : ℕ) (t : Tok) (old new : Scene) (r : Result) → new.environment ≡ old.environment → is_overfull (world g frozen depth old) ≡ false → taking (world g frozen depth old) ≡ Takes (present (world g frozen depth old) (viewed g.view t)) (world g frozen depth new) → ComesGiven o (private.Tok (present (world g frozen depth new) (viewed g.view t))) around (world g frozen depth new) r → Comes o around (private.Take (world g frozen depth old)) r
takes-token g frozen o around depth t old new r same room takes comes =
    comes-token o around (world g frozen depth old) (world g frozen depth new) (present (world g frozen depth old) (viewed g.view t)) r room takes
    (subst (λ (e : State). ComesGiven o (private.Tok (present (world g frozen depth (record new { environment = e })) (viewed g.view t))) around (world g frozen depth new) r) same comes)

-- a name comes, whose number is looked for
pub takes-name : (g : Ground) (frozen : Map BoxNode) (o : Open) (around : List Open) (depth : ℕ) (wanted : Option (List ℕ)) (old new : Scene) (r : Result) → is_overfull (world g frozen depth old) ≡ false → IsSomeAnd wanted (λ text. taking (world g frozen depth old) ≡ making (new_text text (world g frozen depth new)) (present (world g frozen depth old) (Name text)) (world g frozen depth new)) → TakesName o around (unwrap_or wanted []) (world g frozen depth new) r → Comes o around (private.Take (world g frozen depth old)) r
takes-name g frozen o around depth None old new r room is comes = absurd is
takes-name g frozen o around depth (Some text) old new r room is comes = comes (world g frozen depth old) room is

-- no step is left
pub takes-none : (g : Ground) (frozen : Map BoxNode) (o : Open) (around : List Open) (depth : ℕ) (old new : Scene) → is_overfull (world g frozen depth old) ≡ false → taking (world g frozen depth old) ≡ Spends (world g frozen depth old).output → new.log ≡ old.log → new.input.steps.spent ≡ old.input.steps.spent → Comes o around (private.Take (world g frozen depth old)) (Spent (world g frozen 0 new).output)
takes-none g frozen o around depth old new room spends log spent =
    comes-spent o around (world g frozen depth old) (world g frozen depth old).output (Spent (world g frozen 0 new).output) room spends
    (ap (λ n. Spent (record { steps = n; pages = 0; dvi = []; log = old.log })) (sym spent)
    ∙ ap (λ l. Spent (record { steps = new.input.steps.spent; pages = 0; dvi = []; log = l })) (sym log))

-- what is kept where a token is wished for
pub keeps-take : (old new : Scene) (m n : ℕ) → KeepsGround old new → new.environment ≡ old.environment → new.input.names ≡ old.input.names → new.input.steps.budget ≡ old.input.steps.budget → ticks_left new n ≤ ticks_left old m → KeepsAll old m new n
keeps-take old new m n ground environment names budget left = record {
  ground = ground;
  before = before-same old.environment new.environment environment;
  names = names;
  budget = budget;
  left = left;
}

-- by which a step is spent, or none
pub left-stepped : (old new : Scene) (m : ℕ) → new.input.steps.spent ≡ old.input.steps.spent + 1 → new.input.steps.spent ≤ new.input.steps.budget → new.input.steps.budget ≡ old.input.steps.budget → ticks_left new 4294967295 ≤ ticks_left old m
left-stepped old new m spent within budget = omega arith

pub left-same : (old new : Scene) (m : ℕ) → new.input.steps.spent ≡ old.input.steps.spent + 0 → new.input.steps.budget ≡ old.input.steps.budget → ticks_left new m ≤ ticks_left old m
left-same old new m spent budget = omega arith

-- what comes of what is about to be done comes of the run
pub means-does : (g : Ground) (frozen : Map BoxNode) (run : Run) (d : Doing) (t : Tick) (new : Run) → run.doing ≡ d → Leads (Does g frozen d run) g frozen t new → Leads (Means g frozen run) g frozen t new
means-does g frozen run d t new e l = subst (λ x. Leads (Does g frozen x run) g frozen t new) (sym e) l

-- what is so for what is about to be done
pub sound-as : (frozen : Map BoxNode) (run : Run) (d : Doing) → run.doing ≡ d → IsSoundFor frozen run.doing run.scene → IsSoundFor frozen d run.scene
sound-as frozen run d e sound = subst (λ x. IsSoundFor frozen x run.scene) e sound

pub waits-as : (run : Run) (d : Doing) → run.doing ≡ d → AreWaiting run.doing run.frames → AreWaiting d run.frames
waits-as run d e waits = subst (λ x. AreWaiting x run.frames) e waits

-- how many ticks may come doesn't matter to it
pub does-moves : (g : Ground) (frozen : Map BoxNode) (d : Doing) (run : Run) (moves : ℕ) (r : Result) → Does g frozen d (record run { moves = moves }) r → Does g frozen d run r
does-moves g frozen (doing.Tells told.Log d) run moves r p = p
does-moves g frozen (doing.Tells (told.Error n) d) run moves r p = p
does-moves g frozen d run moves r p = p

-- a run that asks for what it is about to do is as it was
pub asks-same : (run new : Run) (d : Doing) → run.doing ≡ d → new ≡ record run { doing = d } → new ≡ run
asks-same run new d e becomes = becomes ∙ ap (λ x. record run { doing = x }) (sym e)

pub asks-leads : (g : Ground) (frozen : Map BoxNode) (run new : Run) (o : Op) (t : Tick) → new ≡ run → t ≡ tick.Ask o → Leads (Means g frozen run) g frozen t new
asks-leads g frozen run new o t same e =
    subst (λ x. Leads (Means g frozen run) g frozen x new) (sym e) (λ r p. subst (λ x. Means g frozen x r) same p)

pub asks-sound : (frozen : Map BoxNode) (run new : Run) (o : Op) (t : Tick) → new ≡ run → t ≡ tick.Ask o → IsSoundFor frozen run.doing run.scene → AreWaiting run.doing run.frames → IsSoundAfter frozen t new
asks-sound frozen run new o t same e sound waits =
    subst (λ x. IsSoundAfter frozen x new) (sym e) (subst (λ (x : Run). IsSoundFor frozen x.doing x.scene × AreWaiting x.doing x.frames) (sym same) (sound, waits))

pub asks-keeps : (run new : Run) → new ≡ run → Keeps run new
asks-keeps run new same = subst (λ (x : Run). Keeps run x) (sym same) (keeps-same run.scene run.moves)

pub asks-asked : (run new : Run) (d : Doing) (o : Op) (t : Tick) → new ≡ run → t ≡ tick.Ask o → run.doing ≡ d → run.fallen ≡ None → asked_by d ≡ Some o → IsAsked t new
asks-asked run new d o t same e due fallen asks =
    subst (λ x. IsAsked x new) (sym e)
    (ap (λ (x : Run). asked_after x.fallen x.doing) same ∙ ap (λ f. asked_after f run.doing) fallen ∙ ap asked_by due ∙ asks)

-- what is kept from a later tick on is kept from an earlier one
pub keeps-later : (a : Scene) (m n : ℕ) (b : Scene) (o : ℕ) → m ≤ n → KeepsAll a m b o → KeepsAll a n b o
keeps-later a m n b o more keeps = record {
  ground = keeps.ground;
  before = keeps.before;
  names = keeps.names;
  budget = keeps.budget;
  left = omega (arith, keeps.left);
}

-- what is asked for tells what a description wants
asks-text : (o : Option Wanted) (n : ℕ) → asked_for o ≡ Some (op.Text n) → o ≡ Some (wanted.Text n)
asks-text (Some (wanted.Text m)) n e = cc
asks-text (Some (wanted.Content id)) n e = cc
asks-text (Some (wanted.Frozen k)) n e = cc
asks-text None n e = cc

asks-content : (o : Option Wanted) (n : ℕ) → asked_for o ≡ Some (op.Read n) → o ≡ content_wanted (list.Pooled n)
asks-content (Some (wanted.Text m)) n e = cc
asks-content (Some (wanted.Content id)) n e = cc
asks-content (Some (wanted.Frozen k)) n e = cc
asks-content None n e = cc

prints-want-text : (f : Option ℕ) (s : Start) (d : Description) (n : ℕ) → asked_after f (doing.Prints s d) ≡ Some (op.Text n) → wants d ≡ Some (wanted.Text n)
prints-want-text None s d n e = asks-text (wants d) n e
prints-want-text (Some id) s d n e = cc

prints-want-content : (f : Option ℕ) (s : Start) (d : Description) (n : ℕ) → asked_after f (doing.Prints s d) ≡ Some (op.Read n) → wants d ≡ content_wanted (list.Pooled n)
prints-want-content None s d n e = asks-content (wants d) n e
prints-want-content (Some id) s d n e = cc

-- a text that is printed goes on by the text of a name
pub printed-text : (g : Ground) (run : Run) (s : Start) (d new : Description) (cats : Cats) (text : List ℕ) (n : ℕ) → run.doing ≡ doing.Prints s d → cats ≡ run.scene.environment.cats → ((view : View) (k : ℕ) → wants d ≡ Some (wanted.Text k) → view.naming k ≡ text → text_in view cats new ≡ text_in view cats d) → asked run ≡ Some (op.Text n) → g.view.naming n ≡ text → (frozen : Map BoxNode) (r : Result) → Does g frozen (doing.Prints s new) run r → Means g frozen run r
printed-text g run s d new cats text n e same given asks named frozen r after =
    let due = prints-want-text run.fallen s d n (subst (λ x. asked_after run.fallen x ≡ Some (op.Text n)) e asks) in
    let texts : text_in g.view run.scene.environment.cats new ≡ text_in g.view run.scene.environment.cats d = subst (λ k. text_in g.view k new ≡ text_in g.view k d) same (given g.view n due named) in
    subst (λ x. Does g frozen x run r) (sym e) (prints-on g frozen s d new run r texts after)

-- and by the content of a list
pub printed-content : (g : Ground) (run : Run) (s : Start) (d new : Description) (tokens : List Tok) (n : ℕ) → run.doing ≡ doing.Prints s d → ((view : View) (cats : Cats) (list : ListRef) → wants d ≡ content_wanted list → view.content list ≡ tokens → text_in view cats new ≡ text_in view cats d) → asked run ≡ Some (op.Read n) → g.view.content (list.Pooled n) ≡ tokens → (frozen : Map BoxNode) (r : Result) → Does g frozen (doing.Prints s new) run r → Means g frozen run r
printed-content g run s d new tokens n e given asks content frozen r after =
    let due = prints-want-content run.fallen s d n (subst (λ x. asked_after run.fallen x ≡ Some (op.Read n)) e asks) in
    subst (λ x. Does g frozen x run r) (sym e) (prints-on g frozen s d new run r (given g.view run.scene.environment.cats (list.Pooled n) due content) after)

-- the list that was asked for is copied
reads-number : (f : Option ℕ) (s : Start) (how : Use) (m n : ℕ) → asked_after f (doing.Reads s how m) ≡ Some (op.Read n) → m ≡ n
reads-number None s how m n e = cc
reads-number (Some id) s how m n e = cc

pub read-list : (g : Ground) (run : Run) (s : Start) (how : Use) (m : ℕ) (tokens : List Tok) (n : ℕ) → run.doing ≡ doing.Reads s how m → asked run ≡ Some (op.Read n) → g.view.content (list.Pooled n) ≡ tokens → (frozen : Map BoxNode) (r : Result) → Does g frozen (doing.Copies s how tokens) run r → Means g frozen run r
read-list g run s how m tokens n e asks content frozen r after =
    let number = reads-number run.fallen s how m n (subst (λ x. asked_after run.fallen x ≡ Some (op.Read n)) e asks) in
    let same : tokens ≡ g.view.content (list.Pooled m) = sym content ∙ ap (λ k. g.view.content (list.Pooled k)) (sym number) in
    subst (λ x. Does g frozen x run r) (sym e) (subst (λ xs. AnyComes g frozen (kind_of g.view s) (opens g.view run) (used how (all_viewed g.view xs)) run r) same after)
