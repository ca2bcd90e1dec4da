-- What comes of main control, by what comes of the run after a step.
use Rattle.std.proofs.Common.{◌≡◌, ℕ, ◌+◌, ◌-◌, ◌*◌, ◌^◌, ◌≤◌, pos, Bool, true, false, List, [], if◌then◌else◌, refl, sym, ◌∙◌, ap, subst}
use Rattle.std.proofs.Math.Nat.{le_refl}
use Rattle.std.specs.List.{AllByRecursion}
use Rattle.tx_node.specs.declared.BoxNode.{BoxNode}
use Rattle.tx_eqtb.specs.Meanings.{Map}
use Rattle.tx_eqtb.specs.Tables.{before}
use Rattle.tx_eqtb.specs.Steps.{KeepsBefore}
use Rattle.tx_format.specs.declared.state.Engineless.{Engineless}
use Rattle.tx_tok.specs.declared.tok.Tok.{Tok}
use Rattle.tx_private.specs.Errors.{Error, numbered}
use Rattle.tx_private.specs.World.{World, failure, is_overfull}
use Rattle.tx_private.specs.Lists.{storing, most_stored}
use Rattle.tx_views.specs.Views.{all_viewed}
use Rattle.tx_private.specs.Readings as private
use Rattle.tx_private.specs.Reads.{Result, Gave, Failed}
use Rattle.tx_opens.specs.Opens.{Open, SaysSame, Comes, depth_of}
use Rattle.tx_opens.proofs.Opens.{comes-bad, comes-same, comes-overfull, comes-done, same-tell}
use Rattle.tx_input.specs.Worlds.{IsOf}
use Rattle.tx_environment.specs.States.{State}
use Rattle.tx_frames.specs.declared.frame.Frame.{Frame}
use Rattle.tx_frames.specs.Kinds.{wished}
use Rattle.tx_commands.specs.declared.command.Command.{Command}
use Rattle.tx_commands.specs.declared.effect.Effect.{Effect}
use Rattle.tx_commands.specs.Outcomes.{move_of}
use Rattle.tx_commands.specs.Commands as commands
use Rattle.tx_commands.specs.Wishes.{wish_of}
use Rattle.tx_scene.specs.declared.scene.Scene.{Scene}
use Rattle.tx_scene.specs.Scenes.{Ground, world}
use Rattle.tx_scene.specs.Changes.{KeepsGround, Stores}
use Rattle.tx_run.specs.declared.run.Run.{Run}
use Rattle.tx_run.specs.Readings.{Waits, opens_in, innermost, outer, wish_in, waiting}
use Rattle.tx_run.specs.declared.doing.Taker.TheVariants as taker
use Rattle.tx_run.specs.declared.op.Tick.{Tick}
use Rattle.tx_run.specs.Runs.{ControlComes, FailsNow, KeepsAll, ticks_left, IsGroundOf, Leads}
use Rattle.tx_run.proofs.RunLemmas.{leads-map}

-- a ground reads each scene with the same input
pub ground-same : (old new : Scene) → new.input ≡ old.input → KeepsGround old new
ground-same old new e g is = record { view = is.view; formats = subst (λ i. IsOf g.formats g.view i) (sym e) is.formats }

pub ground-after : (format : Engineless) (g : Ground) (old new : Scene) → KeepsGround old new → IsGroundOf format g old → IsGroundOf format g new
ground-after format g old new keeps is = record { ground = keeps g is.ground; lists = is.lists }

-- what is so before the region stays so
pub before-same : (old new : State) → new ≡ old → KeepsBefore old.table new.table
before-same old new e frozen q = ap (λ (s : State). before frozen s.table q) e

-- a call that changes no input
pub keeps-environment : (old new : Scene) (m : ℕ) → new.input ≡ old.input → KeepsBefore old.environment.table new.environment.table → KeepsAll old m new m
keeps-environment old new m e kept = record {
  ground = ground-same old new e;
  before = kept;
  names = ap (λ i. i.names) e;
  budget = ap (λ i. i.steps.budget) e;
  left = subst (λ i. (i.steps.budget - i.steps.spent) * 2 ^ 32 + m ≤ ticks_left old m) (sym e) (le_refl (ticks_left old m));
}

-- a call that changes what is pending alone
pub keeps-input : (old new : Scene) (m : ℕ) → KeepsGround old new → new.environment ≡ old.environment → new.input.names ≡ old.input.names → new.input.steps ≡ old.input.steps → KeepsAll old m new m
keeps-input old new m ground environment names steps = record {
  ground = ground;
  before = before-same old.environment new.environment environment;
  names = names;
  budget = ap (λ i. i.budget) steps;
  left = subst (λ i. (i.budget - i.spent) * 2 ^ 32 + m ≤ ticks_left old m) (sym steps) (le_refl (ticks_left old m));
}

-- nothing changes
pub keeps-same : (s : Scene) (m : ℕ) → KeepsAll s m s m
keeps-same s m = keeps-environment s s m refl (λ frozen q. refl)

-- what comes of one move in a world comes of another one in the world before
pub control-moves : (g : Ground) (frozen : Map BoxNode) (move next : World → private.Move) (old new : Run) → move (world g frozen 0 old.scene) ≡ next (world g frozen 0 new.scene) → (r : Result) → ControlComes g frozen next new r → ControlComes g frozen move old r
control-moves g frozen move next old new e r p = λ o k. subst (λ m. Comes o [] m r) (sym e) (p o k)

-- so does the error that ends the region
pub control-fails : (g : Ground) (frozen : Map BoxNode) (move : World → private.Move) (error : Error) (old : Run) (s : Scene) → move (world g frozen 0 old.scene) ≡ private.Bad error (world g frozen 0 s) → (r : Result) → FailsNow frozen error g s r → ControlComes g frozen move old r
control-fails g frozen move error old s e r p = λ o k. subst (λ m. Comes o [] m r) (sym e) (comes-bad o [] (world g frozen 0 s) error r (p 0))

-- none waits where none is open
pub none-wait : (frames : List Frame) → frames ≡ [] → AllByRecursion Waits frames
none-wait frames e = subst (λ (fs : List Frame). AllByRecursion Waits fs) (sym e) tt

pub none-wait-around : (frames : List Frame) → frames ≡ [] → AllByRecursion Waits (waiting taker.Innermost frames)
none-wait-around frames e = subst (λ (fs : List Frame). AllByRecursion Waits (waiting taker.Innermost fs)) (sym e) tt

-- a command takes its next item, where no reading is open within it
pub command-wishes : (g : Ground) (frozen : Map BoxNode) (s : Scene) (frames : List Frame) (c : Command) (o : Open) (m : private.Move) (r : Result) → frames ≡ [] → SaysSame o (commands.open_of g.view c) → m ≡ wished g.view (wish_of c) (world g frozen 0 s) → Comes (innermost g.view frames c) (outer g.view frames c) (wished g.view (wish_in frames c) (world g frozen (depth_of (opens_in g.view frames c)) s)) r → Comes o [] m r
command-wishes g frozen s frames c o m r none same is p =
    let q = subst (λ (fs : List Frame). Comes (innermost g.view fs c) (outer g.view fs c) (wished g.view (wish_in fs c) (world g frozen (depth_of (opens_in g.view fs c)) s)) r) none p in
    subst (λ x. Comes o [] x r) (sym is) (comes-same o (commands.open_of g.view c) [] (wished g.view (wish_of c) (world g frozen 0 s)) r same q)

-- main control comes to this by a move, in the world of a scene
abbrev pub Controls : Ground → Map BoxNode → (World → private.Move) → Scene → Result → Type 0
Controls g frozen move s r = (o : Open) → o.kind ≡ private.Control → Comes o [] (move (world g frozen 0 s)) r

-- so it does after a tick, by another move in another world
pub leads-moves : (g : Ground) (frozen : Map BoxNode) (move next : World → private.Move) (old mid : Scene) (t : Tick) (new : Run) → move (world g frozen 0 old) ≡ next (world g frozen 0 mid) → Leads (Controls g frozen next mid) g frozen t new → Leads (Controls g frozen move old) g frozen t new
leads-moves g frozen move next old mid t new e l =
    leads-map (Controls g frozen next mid) (Controls g frozen move old) g frozen t new (λ r p o k. subst (λ m. Comes o [] m r) (sym e) (p o k)) l

pub leads-fails : (g : Ground) (frozen : Map BoxNode) (move : World → private.Move) (error : Error) (old mid : Scene) (t : Tick) (new : Run) → move (world g frozen 0 old) ≡ private.Bad error (world g frozen 0 mid) → Leads (FailsNow frozen error g mid) g frozen t new → Leads (Controls g frozen move old) g frozen t new
leads-fails g frozen move error old mid t new e l =
    leads-map (FailsNow frozen error g mid) (Controls g frozen move old) g frozen t new (λ r p o k. subst (λ m. Comes o [] m r) (sym e) (comes-bad o [] (world g frozen 0 mid) error r (p 0))) l

-- the same of a reading at whose end the region fails, however many are open
pub leads-bad : (g : Ground) (frozen : Map BoxNode) (move : World → private.Move) (error : Error) (around : List Open) (s : Scene) (t : Tick) (new : Run) → ((depth : ℕ) → move (world g frozen depth s) ≡ private.Bad error (world g frozen depth s)) → Leads (FailsNow frozen error g s) g frozen t new → Leads (λ r. (o : Open) (depth : ℕ) → Comes o around (move (world g frozen depth s)) r) g frozen t new
leads-bad g frozen move error around s t new e l =
    leads-map (FailsNow frozen error g s) (λ r. (o : Open) (depth : ℕ) → Comes o around (move (world g frozen depth s)) r) g frozen t new (λ r p o depth. subst (λ m. Comes o around m r) (sym (e depth)) (comes-bad o around (world g frozen depth s) error r (p depth))) l

-- an effect is the one that was matched
pub leads-effect : (g : Ground) (frozen : Map BoxNode) (effect matched : Effect) (run : Run) (t : Tick) (new : Run) → effect ≡ matched → Leads (ControlComes g frozen (move_of g.view matched) run) g frozen t new → Leads (ControlComes g frozen (move_of g.view effect) run) g frozen t new
leads-effect g frozen effect matched run t new is l = subst (λ (e : Effect). Leads (ControlComes g frozen (move_of g.view e) run) g frozen t new) (sym is) l

-- the error that ends the region shows what something means
pub leads-shown : (g : Ground) (frozen : Map BoxNode) (move : World → private.Move) (error : World → Error) (s : Scene) (t : Tick) (new : Run) → move (world g frozen 0 s) ≡ private.Bad (error (world g frozen 0 s)) (world g frozen 0 s) → Leads (λ r. (o : Open) (around : List Open) (depth : ℕ) → Comes o around (private.Bad (error (world g frozen depth s)) (world g frozen depth s)) r) g frozen t new → Leads (Controls g frozen move s) g frozen t new
leads-shown g frozen move error s t new e l =
    leads-map (λ r. (o : Open) (around : List Open) (depth : ℕ) → Comes o around (private.Bad (error (world g frozen depth s)) (world g frozen depth s)) r) (Controls g frozen move s) g frozen t new (λ r p o k. subst (λ m. Comes o [] m r) (sym e) (p o [] 0)) l

-- the text is at its end
pub leads-overfull : (g : Ground) (frozen : Map BoxNode) (move : World → private.Move) (s : Scene) (t : Tick) (new : Run) → move (world g frozen 0 s) ≡ private.Done private.TextEnd (world g frozen 0 s) → is_overfull (world g frozen 0 s) ≡ true → Leads (FailsNow frozen (numbered 57 4 (pos 0)) g s) g frozen t new → Leads (Controls g frozen move s) g frozen t new
leads-overfull g frozen move s t new e over l =
    leads-map (FailsNow frozen (numbered 57 4 (pos 0)) g s) (Controls g frozen move s) g frozen t new (λ r p o k. subst (λ m. Comes o [] m r) (sym e) (comes-overfull o [] (private.Done private.TextEnd (world g frozen 0 s)) r tt over (p 0))) l

pub control-done : (g : Ground) (frozen : Map BoxNode) (move : World → private.Move) (s : Scene) → move (world g frozen 0 s) ≡ private.Done private.TextEnd (world g frozen 0 s) → is_overfull (world g frozen 0 s) ≡ false → Controls g frozen move s (Gave private.TextEnd (world g frozen 0 s))
control-done g frozen move s e room o k =
    let w = world g frozen 0 s in
    subst (λ m. Comes o [] m (Gave private.TextEnd w)) (sym e) (comes-done o [] w private.TextEnd (Gave private.TextEnd w) room (same-tell (Gave private.TextEnd w) (Gave private.TextEnd w) refl))

-- a list is one too many, or it is stored
pub stores-not : (tokens : List Tok) (fits : Bool) (old new : Scene) (g : Ground) (frozen : Map BoxNode) (depth : ℕ) (further : World → private.Move) → fits ≡ false → Stores tokens fits old new → storing (all_viewed g.view tokens) (world g frozen depth old) further ≡ private.Bad (numbered 57 5 (pos (most_stored old.preamble))) (world g frozen depth old)
stores-not tokens fits old new g frozen depth further e stores =
    stores g frozen depth further ∙ ap (λ b. if b then further (world g frozen depth new) else private.Bad (numbered 57 5 (pos (most_stored old.preamble))) (world g frozen depth old)) e

pub stores-more : (tokens : List Tok) (fits : Bool) (old new : Scene) (g : Ground) (frozen : Map BoxNode) (depth : ℕ) (further : World → private.Move) → fits ≡ true → Stores tokens fits old new → storing (all_viewed g.view tokens) (world g frozen depth old) further ≡ further (world g frozen depth new)
stores-more tokens fits old new g frozen depth further e stores =
    stores g frozen depth further ∙ ap (λ b. if b then further (world g frozen depth new) else private.Bad (numbered 57 5 (pos (most_stored old.preamble))) (world g frozen depth old)) e

-- how many tokens are stored doesn't count for the error
pub fails-stored : (g : Ground) (frozen : Map BoxNode) (old new : Scene) (r : Result) → new ≡ record old { stored = new.stored } → FailsNow frozen (numbered 57 5 (pos (most_stored new.preamble))) g new r → FailsNow frozen (numbered 57 5 (pos (most_stored old.preamble))) g old r
fails-stored g frozen old new r e p depth =
    subst (λ (s : Scene). Failed (failure (numbered 57 5 (pos (most_stored s.preamble))) (world g frozen depth s)) ≡ r) e (p depth)

pub leads-stored : (g : Ground) (frozen : Map BoxNode) (old new : Scene) (t : Tick) (run : Run) → new ≡ record old { stored = new.stored } → Leads (FailsNow frozen (numbered 57 5 (pos (most_stored new.preamble))) g new) g frozen t run → Leads (FailsNow frozen (numbered 57 5 (pos (most_stored old.preamble))) g old) g frozen t run
leads-stored g frozen old new t run e l =
    leads-map (FailsNow frozen (numbered 57 5 (pos (most_stored new.preamble))) g new) (FailsNow frozen (numbered 57 5 (pos (most_stored old.preamble))) g old) g frozen t run (λ r p. fails-stored g frozen old new r e p) l

-- what comes of main control comes of it in the middle of a command
pub leads-open : (g : Ground) (frozen : Map BoxNode) (move : World → private.Move) (s : Scene) (o : Open) (m : private.Move) (t : Tick) (new : Run) → o.kind ≡ private.Control → m ≡ move (world g frozen 0 s) → Leads (Controls g frozen move s) g frozen t new → Leads (Comes o [] m) g frozen t new
leads-open g frozen move s o m t new k e l =
    leads-map (Controls g frozen move s) (Comes o [] m) g frozen t new (λ r p. subst (λ x. Comes o [] x r) (sym e) (p o k)) l
