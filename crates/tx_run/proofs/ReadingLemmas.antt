-- What comes of answers, of tokens and of values.
use Rattle.std.specs.Prelude.{Result as MayFail, Ok, Err, OnOk, is_err}
use Rattle.std.specs.Option.{IfNone, is_some}
use Rattle.std.proofs.Common.{◌≡◌, ℕ, ◌+◌, pos, Bool, true, false, cond, List, [], ◌∷◌, Option, None, Some, ◌⊎◌, inl, inr, refl, sym, ◌∙◌, ap, subst}
use Rattle.std.specs.List.{AllByRecursion}
use Rattle.std.proofs.Math.Nat.{add-zero}
use Rattle.std.proofs.lemmas.Bool.Decides.{eqb_tells}
use Rattle.tx_node.specs.declared.BoxNode.{BoxNode}
use Rattle.tx_eqtb.specs.Meanings.{Map, meanings}
use Rattle.tx_format.specs.declared.state.Engineless.{Engineless}
use Rattle.tx_model.specs.Tokens.{Token}
use Rattle.tx_tok.specs.declared.tok.Tok.{Tok}
use Rattle.tx_tok.specs.declared.tok.Tok.TheVariants as tok
use Rattle.tx_tok.specs.Tokens.{token_with}
use Rattle.tx_private.specs.Errors.{Error, numbered}
use Rattle.tx_private.specs.Environment.{meaning_of}
use Rattle.tx_private.specs.World.{World, Command as Present, failure, is_overfull, put_in_front}
use Rattle.tx_private.specs.Readings as private
use Rattle.tx_private.specs.Moves.{move_in}
use Rattle.tx_private.specs.Scans.{letter_of}
use Rattle.tx_private.specs.Expansions.{expansion}
use Rattle.tx_private.specs.Reads.{Result, Gave, Failed, counts}
use Rattle.tx_opens.specs.Opens.{Open, begun, given, depth_of, Follows, SaysSame, Then, Comes, ComesGiven}
use Rattle.tx_opens.proofs.Opens.{comes-bad, comes-same, comes-overfull, comes-done, then-given}
use Rattle.tx_views.specs.Views.{View, viewed}
use Rattle.tx_views.specs.declared.sense.Sense.{Sense}
use Rattle.tx_views.specs.Meanings.{sense_in}
use Rattle.tx_frames.specs.declared.frame.Frame.{Frame}
use Rattle.tx_frames.specs.declared.frame.Frame.TheVariants as frame
use Rattle.tx_frames.specs.declared.frame.Wish.{Wish}
use Rattle.tx_frames.specs.declared.frame.Wish.TheVariants as wish
use Rattle.tx_frames.specs.declared.value.Value.{Value}
use Rattle.tx_frames.specs.declared.value.Item.{Item}
use Rattle.tx_frames.specs.declared.value.Item.TheVariants as item
use Rattle.tx_frames.specs.declared.answer.Answer.{Answer}
use Rattle.tx_frames.specs.Kinds.{expanded_kind, wished}
use Rattle.tx_frames.specs.Values.{command_in, item_in}
use Rattle.tx_frames.specs.Opened.{expanding}
use Rattle.tx_frames.specs.Answers.{Becomes, BecomesGiven, Suits, SuitsWish, SuitsScan}
use Rattle.tx_frames.specs.Frames as readings
use Rattle.tx_commands.specs.declared.command.Command.{Command}
use Rattle.tx_commands.specs.declared.item.Item.{Item as CommandItem}
use Rattle.tx_commands.specs.declared.outcome.Outcome.{Outcome}
use Rattle.tx_commands.specs.Items.{item_in as command_item}
use Rattle.tx_commands.specs.Outcomes.{BecomesGiven as CommandBecomes}
use Rattle.tx_commands.specs.Commands as commands
use Rattle.tx_scene.specs.declared.scene.Scene.{Scene}
use Rattle.tx_scene.specs.Scenes.{Ground, world}
use Rattle.tx_run.specs.declared.doing.Start.{Start}
use Rattle.tx_run.specs.declared.doing.Start.TheVariants as start
use Rattle.tx_run.specs.declared.doing.Taker.{Taker}
use Rattle.tx_run.specs.declared.op.Tick.{Tick}
use Rattle.tx_run.specs.declared.op.Tick.TheVariants as tick
use Rattle.tx_run.specs.declared.run.Run.{Run}
use Rattle.tx_run.specs.Readings.{kind_of, start_of, opens_in, innermost, outer, wish_in, taking, behind, Waits, WaitsBy, is_scan, letter_given}
use Rattle.tx_run.specs.Runs.{opens, world_in, world_now, AnyComes, AnyEnds, ComesTaken, ComesPlain, CarriesOut, Concludes, Leads, IsGroundOf, FailsNow}
use Rattle.tx_run.proofs.RunLemmas.{leads-map, kind-of-frame}
use Rattle.tx_run.proofs.WishLemmas.{opens-split}

-- a call that gives no error has done what it does
pub gone : {T E : Type 0} (X : Type 0) (r : MayFail T E) → is_err r ≡ false → OnOk r X → X
gone X (Ok x) e h = h
gone X (Err x) e h = cc

-- where nothing is there, what is so without it
pub lacking : {A : Type 0} (X : Type 0) (o : Option A) → is_some o ≡ false → IfNone o X → X
lacking X None e h = h
lacking X (Some x) e h = cc

-- a reading counts as it began
pub frame-depth : (view : View) (f : Frame) (around : List Open) → depth_of (readings.open_of view f ∷ around) ≡ depth_of (begun (kind_of view (start_of f)) ∷ around)
frame-depth view f around = ap (λ k. depth_of around + counts k) (kind-of-frame view f)

-- an expanded token counts for nothing
expanded-depth : (text : Bool) (around : List Open) → depth_of (begun (expanded_kind text) ∷ around) ≡ depth_of around
expanded-depth true around = add-zero (depth_of around)
expanded-depth false around = add-zero (depth_of around)

-- a reading that goes on behind tokens takes its next item
pub goes-on : (g : Ground) (frozen : Map BoxNode) (f : Frame) (tokens : List Token) (frames : List Frame) (old : Run) (s : Scene) (r : Result) → frames ≡ f ∷ old.frames → ((depth : ℕ) → world g frozen depth s ≡ put_in_front tokens (world g frozen depth old.scene)) → Comes (innermost g.view frames old.command) (outer g.view frames old.command) (wished g.view (wish_in frames old.command) (world g frozen (depth_of (opens_in g.view frames old.command)) s)) r → Comes (readings.open_of g.view f) (opens g.view old) (wished g.view (readings.wish_of f) (put_in_front tokens (world_in g frozen (kind_of g.view (start_of f)) (opens g.view old) old))) r
goes-on g frozen f tokens frames old s r pushed changes comes =
    let around = opens g.view old in
    let o = readings.open_of g.view f in
    let first : Comes o around (wished g.view (readings.wish_of f) (world g frozen (depth_of (o ∷ around)) s)) r =
    subst (λ (fs : List Frame). Comes (innermost g.view fs old.command) (outer g.view fs old.command) (wished g.view (wish_in fs old.command) (world g frozen (depth_of (opens_in g.view fs old.command)) s)) r) pushed comes in
    let same : world g frozen (depth_of (o ∷ around)) s ≡ put_in_front tokens (world_in g frozen (kind_of g.view (start_of f)) around old) =
    changes (depth_of (o ∷ around)) ∙ ap (λ (d : ℕ). put_in_front tokens (world g frozen d old.scene)) (frame-depth g.view f around) in
    subst (λ (w : World). Comes o around (wished g.view (readings.wish_of f) w) r) same first

-- an answer by which a reading goes on
pub carry-goes : (g : Ground) (frozen : Map BoxNode) (s : Start) (f : Frame) (tokens : List Token) (old : Run) (o : Open) (m : private.Move) (t : Tick) (new : Run) → o.kind ≡ kind_of g.view s → SaysSame o (readings.open_of g.view f) → m ≡ wished g.view (readings.wish_of f) (put_in_front tokens (world_in g frozen (kind_of g.view s) (opens g.view old) old)) → Leads (Comes (readings.open_of g.view f) (opens g.view old) (wished g.view (readings.wish_of f) (put_in_front tokens (world_in g frozen (kind_of g.view (start_of f)) (opens g.view old) old)))) g frozen t new → Leads (Comes o (opens g.view old) m) g frozen t new
carry-goes g frozen s f tokens old o m t new kind same e l =
    let around = opens g.view old in
    let p = readings.open_of g.view f in
    let move = λ (k : private.Kind). wished g.view (readings.wish_of f) (put_in_front tokens (world_in g frozen k around old)) in
    let k : kind_of g.view (start_of f) ≡ kind_of g.view s = sym (kind-of-frame g.view f) ∙ sym same.kind ∙ kind in
    leads-map (Comes p around (move (kind_of g.view (start_of f)))) (Comes o around m) g frozen t new
    (λ r comes. comes-same o p around m r same (subst (λ x. Comes p around x r) (ap move k ∙ sym e) comes)) l

-- an answer by which a reading makes a move
pub carry-moves : (g : Ground) (frozen : Map BoxNode) (k : private.Kind) (move : World → private.Move) (old : Run) (o : Open) (m : private.Move) (t : Tick) (new : Run) → o.kind ≡ k → m ≡ move (world_in g frozen k (opens g.view old) old) → Leads (AnyComes g frozen k (opens g.view old) move old) g frozen t new → Leads (Comes o (opens g.view old) m) g frozen t new
carry-moves g frozen k move old o m t new kind e l =
    let around = opens g.view old in
    leads-map (AnyComes g frozen k around move old) (Comes o around m) g frozen t new (λ r p. subst (λ x. Comes o around x r) (sym e) (p o kind)) l

-- an answer by which a reading ends
pub carry-ends : (g : Ground) (frozen : Map BoxNode) (k : private.Kind) (move : World → private.Move) (old : Run) (o : Open) (m : private.Move) (t : Tick) (new : Run) → m ≡ move (world_in g frozen k (opens g.view old) old) → Leads (λ r. (p : Open) (depth : ℕ) → Comes p (opens g.view old) (move (world g frozen depth old.scene)) r) g frozen t new → Leads (Comes o (opens g.view old) m) g frozen t new
carry-ends g frozen k move old o m t new e l =
    let around = opens g.view old in
    leads-map (λ r. (p : Open) (depth : ℕ) → Comes p around (move (world g frozen depth old.scene)) r) (Comes o around m) g frozen t new
    (λ r p. subst (λ x. Comes o around x r) (sym e) (p o (depth_of (begun k ∷ around)))) l

-- an answer that is an error
pub carry-wrong : (g : Ground) (frozen : Map BoxNode) (k : private.Kind) (error : Error) (old : Run) (o : Open) (m : private.Move) (t : Tick) (new : Run) → m ≡ private.Bad error (world_in g frozen k (opens g.view old) old) → Leads (FailsNow frozen error g old.scene) g frozen t new → Leads (Comes o (opens g.view old) m) g frozen t new
carry-wrong g frozen k error old o m t new e l =
    let around = opens g.view old in
    leads-map (FailsNow frozen error g old.scene) (Comes o around m) g frozen t new
    (λ r p. subst (λ x. Comes o around x r) (sym e) (comes-bad o around (world_in g frozen k around old) error r (p (depth_of (begun k ∷ around))))) l

-- whatever a tick leads to, an error of it is that of a region
pub leads-any : (P : Result → Type 0) (g : Ground) (frozen : Map BoxNode) (t : Tick) (run : Run) → Leads P g frozen t run → Leads (λ r. Unit {0}) g frozen t run
leads-any P g frozen t run l = leads-map P (λ r. Unit {0}) g frozen t run (λ r p. tt) l

-- what a tick leads to on a condition that is so or not
leads-when : (A : Type 0) (P : Result → Type 0) (g : Ground) (frozen : Map BoxNode) (t : Tick) (run : Run) → A ⊎ (A → ⊥) → Leads (λ r. Unit {0}) g frozen t run → (A → Leads P g frozen t run) → Leads (λ r. A → P r) g frozen t run
leads-when A P g frozen tick.Went run d any l = λ r m a. l a r m
leads-when A P g frozen (tick.Ask o) run d any l = λ r m a. l a r m
leads-when A P g frozen tick.Done run d any l = λ a. l a
leads-when A P g frozen tick.Failed run (inl a) any l = let x = l a in (x.0, (λ b. x.1), x.2)
leads-when A P g frozen tick.Failed run (inr n) any l = (any.0, (λ b. absurd (n b)), any.2)
leads-when A P g frozen tick.Spent run d any l = λ a. l a
leads-when A P g frozen tick.Memory run d any l = tt

-- two codes are the same or not
some-same : (x y : ℕ) → Some x ≡ Some y → x ≡ y
some-same x y e = cc

codes-same : (a b : Option ℕ) → (a ≡ b) ⊎ (a ≡ b → ⊥)
codes-same None None = inl refl
codes-same None (Some y) = inr (λ e. cc)
codes-same (Some x) None = inr (λ e. cc)
codes-same (Some x) (Some y) = elim (eqb_tells x y) [ inl p ↦ inl (ap Some p.1) | inr p ↦ inr (λ e. p.1 (some-same x y e)) ]

-- where a code is asked for, what comes of it depends on that it is right
pub leads-lettered : (a b : Option ℕ) (P : Result → Type 0) (g : Ground) (frozen : Map BoxNode) (t : Tick) (run : Run) → Leads (λ r. Unit {0}) g frozen t run → (a ≡ b → Leads P g frozen t run) → Leads (λ r. a ≡ b → P r) g frozen t run
leads-lettered a b P g frozen t run any l = leads-when (a ≡ b) P g frozen t run (codes-same a b) any l

-- a reading that is no scan asks for no code
pub no-letter : (frames : List Frame) (a b : Option ℕ) → is_scan frames ≡ false → letter_given frames a ≡ letter_given frames b
no-letter [] a b e = refl
no-letter (frame.LeftBrace ∷ frames) a b e = refl
no-letter (frame.Equals ∷ frames) a b e = refl
no-letter (frame.Scan r s ∷ frames) a b e = cc
no-letter (frame.Quantity t x ∷ frames) a b e = refl
no-letter (frame.Text x ∷ frames) a b e = refl
no-letter (frame.List s ∷ frames) a b e = refl
no-letter (frame.Expansion text s ∷ frames) a b e = refl

-- the code of the innermost reading's token is that of any reading like it
pub letter-first : (f : Frame) (frames : List Frame) (a : Option ℕ) → letter_given (f ∷ frames) a ≡ letter_given (f ∷ []) a
letter-first frame.LeftBrace frames a = refl
letter-first frame.Equals frames a = refl
letter-first (frame.Scan r s) frames a = refl
letter-first (frame.Quantity t x) frames a = refl
letter-first (frame.Text x) frames a = refl
letter-first (frame.List s) frames a = refl
letter-first (frame.Expansion text s) frames a = refl

-- the code of a token that is no name
pub letter-nameless : (view : View) (name : List ℕ) (t : Tok) → ((n : ℕ) → t ≡ tok.Name n → ⊥) → letter_of (token_with name t) ≡ letter_of (viewed view t)
letter-nameless view name (tok.Char c b) apart = refl
letter-nameless view name (tok.Active b) apart = refl
letter-nameless view name (tok.Name n) apart = absurd (apart n refl)
letter-nameless view name (tok.Param n) apart = refl
letter-nameless view name tok.Stop apart = refl

-- more tokens are pending than may be, where a reading ends
pub value-overfull : (g : Ground) (frozen : Map BoxNode) (v : private.Value) (run : Run) (r : Result) → ((depth : ℕ) → is_overfull (world g frozen depth run.scene) ≡ true) → FailsNow frozen (numbered 57 4 (pos 0)) g run.scene r → AnyEnds g frozen v run r
value-overfull g frozen v run r over fails o depth =
    comes-overfull o (opens g.view run) (private.Done v (world g frozen depth run.scene)) r tt (over depth) (fails depth)

-- a value is given to the innermost reading
pub ends-with : (g : Ground) (frozen : Map BoxNode) (v : private.Value) (run : Run) (r : Result) → ((depth : ℕ) → is_overfull (world g frozen depth run.scene) ≡ false) → ComesGiven (innermost g.view run.frames run.command) (private.Given v) (outer g.view run.frames run.command) (world_now g frozen run) r → AnyEnds g frozen v run r
ends-with g frozen v run r room comes inner depth =
    let o = innermost g.view run.frames run.command in
    let around = outer g.view run.frames run.command in
    let w = world g frozen depth run.scene in
    let split = opens-split g.view run.frames run.command in
    let after : Then (o ∷ around) (Gave v w) r = then-given o around v w r (subst (λ (all : List Open). ComesGiven o (private.Given v) around (world g frozen (depth_of all) run.scene) r) split comes) in
    comes-done inner (opens g.view run) w v r (room depth) (subst (λ (all : List Open). Then all (Gave v w) r) (sym split) after)

-- a reading that makes the move of a value ends with it
done-gave : (k : private.Kind) (items : List private.Item) (v : private.Value) (w : World) (s : Result) → is_overfull w ≡ false → Follows k items (private.Done v w) s → s ≡ Gave v w
done-gave k items v w s room f = same (sym f.ends ∙ ap (λ b. cond b (Some (Failed (failure (numbered 57 4 (pos 0)) w))) (Some (Gave v w))) room)
  where
    same : Some s ≡ Some (Gave v w) → s ≡ Gave v w
    same e = cc

-- how many readings count in the world of a value doesn't matter
then-depth : (around : List Open) (v : private.Value) (w : World) (depth : ℕ) (r : Result) → Then around (Gave v w) r → Then around (Gave v (record w { depth = depth })) r
then-depth [] v w depth r t = record { outcome = t.outcome; left = t.left }
then-depth (o ∷ around) v w depth r t = t

-- where one reading comes to this by ending with a value, any one does
pub ends-any : (g : Ground) (frozen : Map BoxNode) (k : private.Kind) (v : private.Value) (run : Run) (r : Result) → ((depth : ℕ) → is_overfull (world g frozen depth run.scene) ≡ false) → AnyComes g frozen k (opens g.view run) (λ w. private.Done v w) run r → AnyEnds g frozen v run r
ends-any g frozen k v run r room after o depth =
    let around = opens g.view run in
    let w = world_in g frozen k around run in
    let once : (s : Result) × Follows k [] (private.Done v w) s × Then around s r = after (begun k) refl [] (λ item later x. refl) in
    let gave : once.0 ≡ Gave v w = done-gave k [] v w once.0 (room (depth_of (begun k ∷ around))) once.1 in
    comes-done o around (world g frozen depth run.scene) v r (room depth) (then-depth around v w depth r (subst (λ (s : Result). Then around s r) gave once.2))

-- a token comes with its present meaning
pub taken-token : (g : Ground) (frozen : Map BoxNode) (who : Taker) (t : Tok) (sense : Sense) (run : Run) (r : Result) → ((depth : ℕ) → sense_in g.view sense ≡ meaning_of (world g frozen depth run.scene).environment (viewed g.view t)) → ComesGiven (taking g.view who run.frames run.command) (private.Tok (command_in g.view t sense)) (behind g.view who run.frames run.command) (world_now g frozen run) r → ComesTaken g frozen who t run r
taken-token g frozen who t sense run r means comes =
    subst (λ (x : private.Item). ComesGiven (taking g.view who run.frames run.command) x (behind g.view who run.frames run.command) (world_now g frozen run) r)
    (ap (λ m. private.Tok (record { token = viewed g.view t; marked = false; meaning = m })) (means (depth_of (opens g.view run)))) comes

-- an item for the innermost reading, or for the command where no reading is open within it
pub given-reading : (g : Ground) (frozen : Map BoxNode) (f : Frame) (rest all : List Frame) (run : Run) (i : private.Item) (r : Result) → all ≡ f ∷ rest → ComesPlain g frozen f i (record run { frames = rest }) r → ComesGiven (innermost g.view all run.command) i (outer g.view all run.command) (world g frozen (depth_of (opens_in g.view all run.command)) run.scene) r
given-reading g frozen f rest all run i r e comes =
    subst (λ (fs : List Frame). ComesGiven (innermost g.view fs run.command) i (outer g.view fs run.command) (world g frozen (depth_of (opens_in g.view fs run.command)) run.scene) r) (sym e) comes

pub given-command : (g : Ground) (frozen : Map BoxNode) (all : List Frame) (run : Run) (i : private.Item) (r : Result) → all ≡ [] → ComesGiven (commands.open_of g.view run.command) i [] (world g frozen 0 run.scene) r → ComesGiven (innermost g.view all run.command) i (outer g.view all run.command) (world g frozen (depth_of (opens_in g.view all run.command)) run.scene) r
given-command g frozen all run i r e comes =
    subst (λ (fs : List Frame). ComesGiven (innermost g.view fs run.command) i (outer g.view fs run.command) (world g frozen (depth_of (opens_in g.view fs run.command)) run.scene) r) (sym e) comes

-- an answer that is carried out is what comes of the item
pub carried : (format : Engineless) (g : Ground) (f : Frame) (i : Item) (a : Answer) (old : Run) (t : Tick) (new : Run) → IsGroundOf format g old.scene → CarriesOut format (start_of f) a old t new → ((w : World) → BecomesGiven g.view f i w a) → Leads (ComesPlain g (meanings format.frozen) f (item_in g.view i) old) g (meanings format.frozen) t new
carried format g f i a old t new is carries becomes =
    let frozen = meanings format.frozen in
    let around = opens g.view old in
    let o = given (readings.open_of g.view f) (item_in g.view i) in
    let w = world_in g frozen (kind_of g.view (start_of f)) around old in
    subst (λ (depth : ℕ). Leads (Comes o around (readings.says g.view f (item_in g.view i ∷ []) (world g frozen depth old.scene))) g frozen t new) (sym (frame-depth g.view f around))
    (carries g is o (readings.says g.view f (item_in g.view i ∷ []) w) (kind-of-frame g.view f) (becomes w))

-- the same of an item for a command
pub concluded : (format : Engineless) (g : Ground) (command : Command) (i : CommandItem) (a : Outcome) (old : Run) (t : Tick) (new : Run) → IsGroundOf format g old.scene → Concludes format a old t new → ((w : World) → CommandBecomes g.view command i w a) → Leads (ComesGiven (commands.open_of g.view command) (command_item g.view i) [] (world g (meanings format.frozen) 0 old.scene)) g (meanings format.frozen) t new
concluded format g command i a old t new is concludes becomes =
    let frozen = meanings format.frozen in
    let w = world g frozen 0 old.scene in
    concludes g is (given (commands.open_of g.view command) (command_item g.view i)) (commands.says g.view command (command_item g.view i ∷ []) w) refl (becomes w)

-- a token, or the end of the text, where an expanded token is wished for
expands : (text : Bool) (c : Present) (later : List private.Item) (w : World) → move_in (expanded_kind text) (private.Tok c ∷ later) w ≡ expansion text c c.meaning later w
unfolding move_in
expands true c later w = refl
expands false c later w = refl

pub ends-expanded : (text : Bool) (later : List private.Item) (w : World) → move_in (expanded_kind text) (private.End ∷ later) w ≡ private.Done private.TextEnd w
unfolding move_in
ends-expanded true later w = refl
ends-expanded false later w = refl

pub expanded : (format : Engineless) (g : Ground) (text : Bool) (token : Tok) (sense : Sense) (a : Answer) (old : Run) (t : Tick) (new : Run) → IsGroundOf format g old.scene → CarriesOut format (start.Expanded text) a old t new → ((w : World) → Becomes g.view (expanding g.view text token sense) (expansion text (command_in g.view token sense) (sense_in g.view sense) [] w) w a) → Leads (ComesGiven (begun (expanded_kind text)) (private.Tok (command_in g.view token sense)) (opens g.view old) (world_now g (meanings format.frozen) old)) g (meanings format.frozen) t new
expanded format g text token sense a old t new is carries becomes =
    let frozen = meanings format.frozen in
    let around = opens g.view old in
    let c = command_in g.view token sense in
    let o = expanding g.view text token sense in
    let p = given (begun (expanded_kind text)) (private.Tok c) in
    let w = world_in g frozen (expanded_kind text) around old in
    let same : SaysSame p o = record { kind = refl; says = λ next later x. expands text c (next ∷ later) x } in
    let move : expansion text c (sense_in g.view sense) [] w ≡ move_in (expanded_kind text) (private.Tok c ∷ []) (world_now g frozen old) =
    sym (expands text c [] w) ∙ ap (λ (depth : ℕ). move_in (expanded_kind text) (private.Tok c ∷ []) (world g frozen depth old.scene)) (expanded-depth text around) in
    leads-map (Comes o around (expansion text c (sense_in g.view sense) [] w)) (ComesGiven (begun (expanded_kind text)) (private.Tok c) around (world_now g frozen old)) g frozen t new
    (λ r comes. comes-same p o around (move_in (expanded_kind text) (private.Tok c ∷ []) (world_now g frozen old)) r same (subst (λ m. Comes o around m r) move comes))
    (carries g is o (expansion text c (sense_in g.view sense) [] w) refl (becomes w))

-- a value suits each reading that waits for one
suits-wish : (how : Wish) (v : Value) → WaitsBy how → SuitsWish how (item.Given v)
suits-wish wish.Plain v w = w
suits-wish (wish.Expanded text) v w = tt
suits-wish (wish.Within r) v w = tt

suits-scan : (how : Wish) (v : Value) → WaitsBy how → SuitsScan how (item.Given v)
suits-scan wish.Plain v w = w
suits-scan (wish.Expanded text) v w = tt
suits-scan (wish.Within r) v w = tt

pub suits-value : (f : Frame) (v : Value) → Waits f → Suits f (item.Given v)
suits-value frame.LeftBrace v w = tt
suits-value frame.Equals v w = tt
suits-value (frame.Scan r s) v w = suits-scan (readings.wish_of (frame.Scan r s)) v w
suits-value (frame.Quantity t a) v w = tt
suits-value (frame.Text x) v w = suits-wish (readings.wish_of (frame.Text x)) v w
suits-value (frame.List s) v w = suits-wish (readings.wish_of (frame.List s)) v w
suits-value (frame.Expansion text s) v w = suits-wish (readings.wish_of (frame.Expansion text s)) v w

-- the innermost one waits, and those around it
pub waits-first : (f : Frame) (rest all : List Frame) → all ≡ f ∷ rest → AllByRecursion Waits all → Waits f × AllByRecursion Waits rest
waits-first f rest all e w = subst (λ (fs : List Frame). AllByRecursion Waits fs) e w
