-- What a run means depends on the contents of those pooled lists alone that it holds.
use Rattle.std.proofs.Common.{◌≡◌, ℕ, ◌+◌, Bool, List, [], ◌∷◌, arith, refl, ap, subst}
use Rattle.tx_tok.specs.declared.tok.Tok.{Tok}
use Rattle.tx_tok.specs.declared.tok.Tok.TheVariants as tok
use Rattle.tx_tok.specs.declared.tok.ListRef.{ListRef}
use Rattle.tx_tok.specs.declared.tok.ListRef.TheVariants as list
use Rattle.tx_node.specs.declared.BoxNode.{BoxNode}
use Rattle.tx_eqtb.specs.declared.meaning.Meaning.{Meaning}
use Rattle.tx_eqtb.specs.Meanings.{Map}
use Rattle.tx_private.specs.World.{World, failure, put_in_front}
use Rattle.tx_private.specs.Readings as private
use Rattle.tx_private.specs.Reads.{Result, Failed}
use Rattle.tx_private.specs.Texts.{tokens_of}
use Rattle.tx_private.specs.Assignments.{assigns}
use Rattle.tx_opens.specs.Opens.{Open, begun, depth_of, Comes, ComesGiven}
use Rattle.tx_views.specs.Views.{View, viewed, all_viewed, list_in}
use Rattle.tx_views.specs.declared.place.Place.{Place}
use Rattle.tx_views.specs.Places.{address_in}
use Rattle.tx_views.specs.Meanings.{meaning_in}
use Rattle.tx_assign.specs.declared.prefixes.Prefixes.{Prefixes}
use Rattle.tx_assign.specs.Assigned.{prefixes_in}
use Rattle.tx_environment.specs.States.{environment}
use Rattle.tx_environment.specs.Holding.{HasNoPooled}
use Rattle.tx_environment.proofs.ContentLemmas.{same-environment}
use Rattle.tx_input.specs.Owned.{error_of}
use Rattle.tx_input.specs.Worlds.{present, wanted_text}
use Rattle.tx_describe.specs.Descriptions.{text_in}
use Rattle.tx_frames.specs.declared.frame.Frame.{Frame}
use Rattle.tx_frames.specs.Values.{value_in}
use Rattle.tx_frames.specs.Knowledge.{Known, KnowsList, KnowsWish}
use Rattle.tx_commands.specs.declared.command.Command.{Command}
use Rattle.tx_commands.specs.Knowledge.{KnowsMeaning}
use Rattle.tx_scene.specs.declared.scene.Scene.{Scene}
use Rattle.tx_scene.specs.Scenes.{Ground, world}
use Rattle.tx_scene.specs.Changes.{closing}
use Rattle.tx_scene.specs.Knowledge.{references}
use Rattle.tx_run.specs.declared.doing.Start.{Start}
use Rattle.tx_run.specs.declared.doing.Start.TheVariants as start
use Rattle.tx_run.specs.declared.doing.Taker.{Taker}
use Rattle.tx_run.specs.declared.doing.Taker.TheVariants as taker
use Rattle.tx_run.specs.declared.doing.Told.{Told}
use Rattle.tx_run.specs.declared.doing.Told.TheVariants as told
use Rattle.tx_run.specs.declared.doing.Doing.{Doing}
use Rattle.tx_run.specs.declared.doing.Doing.TheVariants as doing
use Rattle.tx_run.specs.declared.run.Run.{Run}
use Rattle.tx_run.specs.Readings.{kind_of, opens_in, innermost, outer, wish_in, taking, behind}
use Rattle.tx_run.specs.Doings.{used, tells, stored_meaning, hang_after_first, TakesName}
use Rattle.tx_run.specs.Runs.{opens, world_now, AnyComes, ControlComes, AnyEnds, ComesTaken, ComesTold, Does, Means}
use Rattle.tx_run.specs.Knowledge.{in_hand, known_by, known_in, KnowsStart, KnowsOpen, KnowsDoing, KnowsBehind, KnowsRun}
use Rattle.tx_run.proofs.MoreLemmas.{more-behind}
use Rattle.tx_run.proofs.KnowledgeLemmas.{below-in}
use Rattle.tx_contents.specs.Contents.{SameGround, IsHeldBy}
use Rattle.tx_contents.proofs.ViewLemmas.{with_content, list-same, meaning-same, value-same, reading-same, wish-same, text-same}
use Rattle.tx_contents.proofs.OpenLemmas.{frame-wish, control-wish, frame-same, control-same}
use Rattle.tx_contents.proofs.MapLemmas.{contents-same}

-- the wish of the innermost reading is known
innermost-wish : (known : Known) (fs : List Frame) (c : Command) → KnowsOpen known fs c → KnowsWish known (wish_in fs c)
innermost-wish known [] c h = control-wish known c h.control
innermost-wish known (f ∷ fs) c h = frame-wish known f h.readings.0

module _ (view : View) (content : ListRef → List Tok) (known : Known) (same : (l : ListRef) → KnowsList known l → view.content l ≡ content l) where
  abbrev other : View
  other = with_content view content

  -- the readings that are open, and those that begin
  start-same : (s : Start) → KnowsStart known s → kind_of view s ≡ kind_of other s
  start-same (start.Expanded text) h = refl
  start-same (start.Within r) h = reading-same view content known same r h

  opens-same : (fs : List Frame) (c : Command) → KnowsOpen known fs c → opens_in view fs c ≡ opens_in other fs c
  opens-same [] c h = λ i. control-same view content known same c h.control i ∷ []
  opens-same (f ∷ fs) c h = λ i. frame-same view content known same f h.readings.0 i ∷ opens-same fs c (record { readings = h.readings.1; control = h.control }) i

  innermost-same : (fs : List Frame) (c : Command) → KnowsOpen known fs c → innermost view fs c ≡ innermost other fs c
  innermost-same [] c h = control-same view content known same c h.control
  innermost-same (f ∷ fs) c h = frame-same view content known same f h.readings.0

  outer-same : (fs : List Frame) (c : Command) → KnowsOpen known fs c → outer view fs c ≡ outer other fs c
  outer-same [] c h = refl
  outer-same (f ∷ fs) c h = opens-same fs c (record { readings = h.readings.1; control = h.control })

  taking-same : (who : Taker) (fs : List Frame) (c : Command) → KnowsOpen known fs c → taking view who fs c ≡ taking other who fs c
  taking-same taker.Innermost fs c h = innermost-same fs c h
  taking-same (taker.Expanded text) fs c h = refl

  behind-same : (who : Taker) (fs : List Frame) (c : Command) → KnowsOpen known fs c → behind view who fs c ≡ behind other who fs c
  behind-same taker.Innermost fs c h = outer-same fs c h
  behind-same (taker.Expanded text) fs c h = opens-same fs c h

-- with these contents of lists
abbrev ground_with : Ground → (ListRef → List Tok) → Ground
ground_with g content = record g { view = with_content g.view content }

module _ (g : Ground) (content : ListRef → List Tok) (known : Known) (same : (l : ListRef) → KnowsList known l → g.view.content l ≡ content l) (frozen : Map BoxNode) (run : Run) (there : (depth : ℕ) → world g frozen depth run.scene ≡ world (ground_with g content) frozen depth run.scene) (r : Result) where
  abbrev after : Ground
  after = ground_with g content

  -- a reading of a kind that stays comes to the same by a move that stays
  any-comes : (j k : private.Kind) (around beyond : List Open) (move turn : World → private.Move) → j ≡ k → around ≡ beyond → ((w : World) → move w ≡ turn w) → AnyComes g frozen j around move run r → AnyComes after frozen k beyond turn run r
  any-comes j k around beyond move turn kind outer moves h = coe 0 1 (i. (o : Open) → o.kind ≡ kind i → Comes o (outer i) (moves (there (depth_of (begun (kind i) ∷ outer i)) i) i) r) h

  -- so does main control
  control-comes : (move turn : World → private.Move) → ((w : World) → move w ≡ turn w) → ControlComes g frozen move run r → ControlComes after frozen turn run r
  control-comes move turn moves h = any-comes private.Control private.Control [] [] move turn refl refl moves h

  assigned : (p : Prefixes) (place : Place) (m : Meaning BoxNode) → KnowsMeaning known m → ControlComes g frozen (assigns (prefixes_in p) (address_in g.view place) (meaning_in g.view m)) run r → ControlComes after frozen (assigns (prefixes_in p) (address_in after.view place) (meaning_in after.view m)) run r
  assigned p place m k h =
      let at = address_in g.view place in
      control-comes (assigns (prefixes_in p) at (meaning_in g.view m)) (assigns (prefixes_in p) at (meaning_in after.view m)) (λ w. ap (λ n. assigns (prefixes_in p) at n w) (meaning-same g.view content known same m k)) h

  -- a text is told
  told-comes : (what : Told) (text shown : List ℕ) → text ≡ shown → ComesTold g frozen what text run r → ComesTold after frozen what shown run r
  told-comes told.Log text shown e h = control-comes (tells told.Log text) (tells told.Log shown) (λ w. ap (λ t. tells told.Log t w) e) h
  told-comes (told.Error number) text shown e h = coe 0 1 (i. (o : Open) (around : List Open) (depth : ℕ) → Comes o around (tells (told.Error number) (e i) (there depth i)) r) h

  -- where the open readings are known
  module _ (knows : KnowsOpen known run.frames run.command) where
    opens-there : opens g.view run ≡ opens after.view run
    opens-there = opens-same g.view content known same run.frames run.command knows

    now-there : world_now g frozen run ≡ world_now after frozen run
    now-there = λ i. there (depth_of (opens-there i)) i

    taking-there : (who : Taker) → taking g.view who run.frames run.command ≡ taking after.view who run.frames run.command
    taking-there who = taking-same g.view content known same who run.frames run.command knows

    behind-there : (who : Taker) → behind g.view who run.frames run.command ≡ behind after.view who run.frames run.command
    behind-there who = behind-same g.view content known same who run.frames run.command knows

    wishes : Does g frozen doing.Wishes run r → Does after frozen doing.Wishes run r
    wishes h = coe 0 1 (i. Comes (taking-there taker.Innermost i) (behind-there taker.Innermost i) (wish-same g.view content known same (wish_in run.frames run.command) (innermost-wish known run.frames run.command knows) (now-there i) i) r) h

    begins : (s : Start) (move turn : World → private.Move) → KnowsStart known s → ((w : World) → move w ≡ turn w) → AnyComes g frozen (kind_of g.view s) (opens g.view run) move run r → AnyComes after frozen (kind_of after.view s) (opens after.view run) turn run r
    begins s move turn k moves h = any-comes (kind_of g.view s) (kind_of after.view s) (opens g.view run) (opens after.view run) move turn (start-same g.view content known same s k) opens-there moves h

    ends : (value given : private.Value) → value ≡ given → AnyEnds g frozen value run r → AnyEnds after frozen given run r
    ends value given e h = coe 0 1 (i. (o : Open) (depth : ℕ) → Comes o (opens-there i) (private.Done (e i) (there depth i)) r) h

    names : (who : Taker) → Does g frozen (doing.Finds who) run r → Does after frozen (doing.Finds who) run r
    names who h = coe 0 1 (i. TakesName (taking-there who i) (behind-there who i) (wanted_text run.scene.input) (now-there i) r) h

    takes : (who : Taker) (t : Tok) → ComesTaken g frozen who t run r → ComesTaken after frozen who t run r
    takes who t h = coe 0 1 (i. ComesGiven (taking-there who i) (private.Tok (present (now-there i) (viewed g.view t))) (behind-there who i) (now-there i) r) h

  -- what comes of what is about to be done
  does-same : (d : Doing) → KnowsDoing known d → KnowsBehind known d run.frames run.command → Does g frozen d run r → Does after frozen d run r
  does-same doing.Wishes k b h = wishes b h
  does-same doing.Restarts k b h = control-comes private.Again private.Again (λ w. refl) h
  does-same (doing.Begins s) k b h = begins b s private.Again private.Again k (λ w. refl) h
  does-same (doing.Gives v) k b h = ends b (value_in g.view v) (value_in after.view v) (value-same g.view content known same v k) h
  does-same (doing.GivesList l) k b h = ends b (private.Tokens (list_in g.view l)) (private.Tokens (list_in after.view l)) (ap private.Tokens (list-same g.view content known same l k)) h
  does-same (doing.Finds who) k b h = names b who h
  does-same (doing.Interns who) k b h = names b who h
  does-same (doing.Full limit) k b h = coe 0 1 (i. (depth : ℕ) → Failed (failure (error_of limit) (there depth i)) ≡ r) h
  does-same (doing.Took who t) k b h = takes b who t h
  does-same (doing.Letter n) k b h = takes b taker.Innermost (tok.Name n) h
  does-same (doing.Lettered t letter) k b h = λ e. takes b taker.Innermost t (h e)
  does-same (doing.Reads s how id) k b h = begins b s (used how (list_in g.view (list.Pooled id))) (used how (list_in after.view (list.Pooled id))) k.0 (λ w. ap (λ tokens. used how tokens w) (list-same g.view content known same (list.Pooled id) k.1)) h
  does-same (doing.Copies s how tokens) k b h = begins b s (used how (all_viewed g.view tokens)) (used how (all_viewed g.view tokens)) k.0 (λ w. refl) h
  does-same (doing.Prints s d) k b h =
      let cats = run.scene.environment.cats in
      begins b s (λ w. private.Again (put_in_front (tokens_of (text_in g.view cats d)) w)) (λ w. private.Again (put_in_front (tokens_of (text_in after.view cats d)) w)) k.0 (λ w. ap (λ text. private.Again (put_in_front (tokens_of text) w)) (text-same g.view content known same cats d k.1)) h
  does-same (doing.Tells what d) k b h =
      let cats = run.scene.environment.cats in
      told-comes what (text_in g.view cats d) (text_in after.view cats d) (text-same g.view content known same cats d k) h
  does-same (doing.Shares p place what tokens) k b h =
      let move = assigns (prefixes_in p) (address_in g.view place) (stored_meaning what (all_viewed g.view tokens)) in
      control-comes move move (λ w. refl) h
  does-same (doing.Takes p place m id) k b h = assigned p place m k.1 h
  does-same (doing.Assigns p place m) k b h = assigned p place m k.1 h
  does-same doing.Closes k b h = control-comes closing closing (λ w. refl) h
  does-same doing.Straightens k b h =
      let move : World → private.Move = λ w. private.Again (hang_after_first w) in
      control-comes move move (λ w. refl) h
  does-same doing.NoMemory k b h = h

-- the worlds are the same, where the environment is
world-same : (g : Ground) (content : ListRef → List Tok) (frozen : Map BoxNode) (s : Scene) → environment g.view frozen s.environment ≡ environment (with_content g.view content) frozen s.environment → (depth : ℕ) → world g frozen depth s ≡ world (ground_with g content) frozen depth s
world-same g content frozen s e depth = λ i. record (world g frozen depth s) { environment = e i }

pub run-same : (g h : Ground) (names : ℕ → Bool) (frozen : Map BoxNode) (run : Run) (r : Result) → HasNoPooled frozen → KnowsRun names run → SameGround (IsHeldBy run) g h → Means g frozen run r → Means h frozen run r
run-same g h names frozen run r none knows alike means =
    let known = known_in names run.scene run.doing in
    let contents = alike.contents in
    let content = h.view.content in
    let lists = contents-same names (λ id. references id run.scene + in_hand id run.doing) g.view h.view contents in
    let env = same-environment g.view (with_content g.view content) frozen run.scene.environment.table run.scene.environment.saves none (record { naming = refl; number = refl; empty = contents.empty; frozen = contents.frozen; pooled = λ id held. contents.pooled id (omega (arith, held)) }) in
    let behind = more-behind (known_by names run.scene) known (below-in names run.scene run.doing) run.doing run.frames run.command knows.behind in
    let naming = contents.naming in
    let number = contents.number in
    let formats = alike.formats in
    subst (λ x. Means x frozen run r) (λ i. record { view = record { naming = naming i; number = number i; content = content }; formats = formats i })
    (does-same g content known lists frozen run (world-same g content frozen run.scene env) r run.doing knows.doing behind means)
