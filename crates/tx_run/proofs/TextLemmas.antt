-- Names, texts and lists that a run is answered with.
use Rattle.std.specs.Prelude.{Result as MayFail, Ok, Err, IfOk, OnErr}
use Rattle.std.proofs.Common.{◌≡◌, ℕ, ℤ, Bool, true, false, List, [], ◌∷◌, length, drop, Option, Some, None, IsSomeAnd, nat_le, nat_lt, ◌<◌, ◌≤◌, ◌+◌, ◌-◌, ◌==◌, unwrap_or, if◌then◌else◌, arith, refl, sym, ◌∙◌, ap, subst}
use Rattle.std.proofs.Math.Nat.{le_refl}
use Rattle.std.proofs.lemmas.Bool.{false≢true}
use Rattle.std.specs.List.{flat_map}
use Rattle.tx_tok.specs.declared.tok.Tok.{Tok}
use Rattle.tx_tok.specs.declared.tok.Tok.TheVariants as tok
use Rattle.tx_tok.specs.declared.tok.ListRef.{ListRef}
use Rattle.tx_tok.specs.declared.tok.ListRef.TheVariants as list
use Rattle.tx_node.specs.declared.BoxNode.{BoxNode}
use Rattle.tx_eqtb.specs.Meanings.{Map}
use Rattle.tx_eqtb.specs.Tables.{now}
use Rattle.tx_save.specs.Saves.{groups, outside}
use Rattle.tx_format.specs.declared.state.Engineless.{Engineless}
use Rattle.tx_format.specs.Formats.{list_at}
use Rattle.tx_num.specs.declared.quantities.ErrorNo.{ErrorNo}
use Rattle.tx_scan.specs.declared.cats.Cats.{Cats}
use Rattle.tx_scan.specs.Scans.{category_by}
use Rattle.tx_model.specs.Shown.{shown_token, shown_in_list}
use Rattle.tx_model.specs.Tokens.{Token, Name}
use Rattle.tx_model.specs.Pending.{Next, First, Empty, Blocked, next}
use Rattle.tx_prims.specs.declared.primitives.IntegerParameter.TheVariants.{EndLineChar, EscapeChar}
use Rattle.tx_private.specs.Environment.{Environment, meaning_of, category_of, parameter_of}
use Rattle.tx_private.specs.World.{World, Command, Taking, Takes, Finds-none, Spends, Breaks, taking as taking_from, taken_from, new_name, made, making, stepped, total_length, failure, put_in_front, logged}
use Rattle.tx_private.specs.Readings as private
use Rattle.tx_private.specs.Described.{described, meaning_text}
use Rattle.tx_private.specs.Texts.{tokens_of}
use Rattle.tx_private.specs.Controls.{text_of_list}
use Rattle.tx_private.specs.Reads.{Result, Failed}
use Rattle.tx_opens.specs.Opens.{Open, begun, depth_of, Comes, ComesGiven}
use Rattle.tx_opens.proofs.Opens.{comes-token, comes-broken, comes-bad}
use Rattle.tx_views.specs.Views.{View, viewed, all_viewed, list_in}
use Rattle.tx_views.specs.declared.place.Place.{Place}
use Rattle.tx_views.specs.Places.{address_in}
use Rattle.tx_views.specs.Meanings.{meaning_in, sense_in}
use Rattle.tx_views.specs.declared.sense.Sense.{Sense}
use Rattle.tx_environment.specs.Soundness.{IsSound, IsFirst}
use Rattle.tx_environment.proofs.CategoryLemmas.{categories-are}
use Rattle.tx_frames.specs.declared.answer.Print.{Print}
use Rattle.tx_frames.specs.declared.answer.Print.TheVariants as print
use Rattle.tx_frames.specs.Answers.{printed}
use Rattle.tx_eqtb.specs.declared.meaning.Meaning.{Meaning}
use Rattle.tx_assign.specs.declared.prefixes.Prefixes.{Prefixes}
use Rattle.tx_assign.specs.Assigned.{prefixes_in}
use Rattle.tx_private.specs.Assignments.{assigns}
use Rattle.tx_input.specs.declared.input.Input.{Input}
use Rattle.tx_input.specs.declared.owned.NameLimit.{NameLimit}
use Rattle.tx_input.specs.Owned.{Own, bytes_of, error_of}
use Rattle.tx_input.specs.Worlds.{present, has_name, new_text, wanted_text}
use Rattle.tx_input.specs.Takings.{IsNumbered, Agrees, Refuses}
use Rattle.tx_describe.specs.declared.description.Description.{Description}
use Rattle.tx_describe.specs.declared.rest.Wanted.{Wanted}
use Rattle.tx_describe.specs.declared.rest.Wanted.TheVariants as wanted
use Rattle.tx_describe.specs.Rests.{content_wanted}
use Rattle.tx_describe.specs.Descriptions.{text_in, wants}
use Rattle.tx_scene.specs.declared.scene.Scene.{Scene}
use Rattle.tx_scene.specs.Scenes.{Ground, IsGround, base, world}
use Rattle.tx_run.specs.declared.doing.Start.{Start}
use Rattle.tx_run.specs.declared.doing.Use.{Use}
use Rattle.tx_run.specs.declared.doing.Taker.{Taker}
use Rattle.tx_run.specs.declared.doing.Told.{Told}
use Rattle.tx_run.specs.declared.doing.Stored.{Stored}
use Rattle.tx_run.specs.declared.doing.Told.TheVariants as told
use Rattle.tx_run.specs.declared.doing.Doing.{Doing}
use Rattle.tx_run.specs.declared.doing.Doing.TheVariants as doing
use Rattle.tx_run.specs.declared.op.Op.{Op}
use Rattle.tx_run.specs.declared.op.Op.TheVariants as op
use Rattle.tx_run.specs.declared.op.Tick.{Tick}
use Rattle.tx_run.specs.declared.op.Tick.TheVariants as tick
use Rattle.tx_run.specs.declared.run.Run.{Run}
use Rattle.tx_run.specs.Readings.{kind_of, taking, behind}
use Rattle.tx_run.specs.Doings.{TakesName, stored_meaning, used, tells}
use Rattle.tx_run.specs.Runs.{opens, world_in, world_now, AnyComes, Leads, IsGroundOf, IsSoundFor, ComesTaken, ComesTold, ControlComes, FailsNow, Does, Means, IsGrown, asked, asked_after, asked_for, shared_tokens}
use Rattle.tx_run.proofs.RunLemmas.{leads-map}

-- no token that is taken changes the environment
environment_after : Environment → Taking → Environment
environment_after e (Takes c w) = w.environment
environment_after e (Finds-none w) = e
environment_after e (Spends output) = e
environment_after e (Breaks f) = e

by-if : (e : Environment) (b : Bool) (x y : Taking) → environment_after e x ≡ e → environment_after e y ≡ e → environment_after e (if b then x else y) ≡ e
by-if e true x y p q = p
by-if e false x y p q = q

made-environment : (text : List ℕ) (c : Command) (w : World) → environment_after w.environment (made text c w) ≡ w.environment
unfolding environment_after
made-environment text c w =
    by-if w.environment (nat_le 65536 (length w.names)) _ _ refl
    (by-if w.environment (nat_lt 4194304 (total_length w.names + length text)) _ _ refl
    (by-if w.environment (nat_lt 1024 (length text)) _ _ refl refl))

making-environment : (o : Option (List ℕ)) (c : Command) (w : World) → environment_after w.environment (making o c w) ≡ w.environment
unfolding environment_after
making-environment None c w = refl
making-environment (Some text) c w = made-environment text c w

taken-from-environment : (w : World) (n : Next) → environment_after w.environment (taken_from w n) ≡ w.environment
unfolding environment_after
taken-from-environment w (First token marked members) =
    by-if w.environment (w.output.steps == w.budget) _ _ refl (making-environment (new_name w.pending token w) (record { token = token; marked = marked; meaning = meaning_of w.environment token }) (stepped members w))
taken-from-environment w (Empty members) = refl
taken-from-environment w (Blocked members) = refl

taken-environment : (w u : World) (c : Command) → taking_from w ≡ Takes c u → u.environment ≡ w.environment
unfolding environment_after
taken-environment w u c e =
    sym (ap (environment_after w.environment) e) ∙ taken-from-environment w (next (category_of w.environment) (parameter_of w.environment EndLineChar) w.pending)

-- a token with its meaning in an environment
abbrev present_in : Environment → Token → Command
present_in e token = record { token = token; marked = false; meaning = meaning_of e token }

-- what comes of the wish for a token, where a name came that has this number from now on
comes-named : (view : View) (o : Open) (outer : List Open) (text : List ℕ) (n : ℕ) (w u : World) (r : Result) → view.naming n ≡ text → ((command : Command) → making (new_text text w) command w ≡ Takes command u) → ComesGiven o (private.Tok (present u (viewed view (tok.Name n)))) outer u r → TakesName o outer text w r
comes-named view o outer text n w u r named takes after before room from =
    let taken : taking_from before ≡ Takes (present before (Name text)) u = from ∙ takes (present before (Name text)) in
    let same : u.environment ≡ before.environment = taken-environment before u (present before (Name text)) taken in
    let with-text : ComesGiven o (private.Tok (present_in u.environment (Name text))) outer u r = subst (λ x. ComesGiven o (private.Tok (present_in u.environment (Name x))) outer u r) named after in
    comes-token o outer before u (present before (Name text)) r room taken (subst (λ e. ComesGiven o (private.Tok (present_in e (Name text))) outer u r) same with-text)

-- a run with another input
abbrev with_input : Run → Input → Run
with_input run input = record run { scene = record run.scene { input = input } }

numbered-name : (g : Ground) (run : Run) (who : Taker) (n : ℕ) (t : Tok) (new : Input) → IsNumbered n run.scene.input t new → IsGround g run.scene → g.view.naming n ≡ wanted_text run.scene.input → (frozen : Map BoxNode) (r : Result) → ComesTaken g frozen who t (with_input run new) r → TakesName (taking g.view who run.frames run.command) (behind g.view who run.frames run.command) (wanted_text run.scene.input) (world_now g frozen run) r
numbered-name g run who n t new is ground named frozen r after =
    comes-named g.view (taking g.view who run.frames run.command) (behind g.view who run.frames run.command) (wanted_text run.scene.input) n (world_now g frozen run) (world_now g frozen (with_input run new)) r named
    (λ command. is.takes g.view g.formats (base g frozen (depth_of (opens g.view run)) run.scene) command ground.view ground.formats named)
    (subst (λ x. ComesTaken g frozen who x (with_input run new) r) is.token after)

-- a name that was looked for has a number
pub found-token : (g : Ground) (run : Run) (who : Taker) (number : Option ℕ) (t : Tok) (new : Input) → run.doing ≡ doing.Finds who → IsSomeAnd number (λ n. IsNumbered n run.scene.input t new) → IsGround g run.scene → Agrees number g.view run.scene.input → ((frozen : Map BoxNode) (r : Result) → ComesTaken g frozen who t (with_input run new) r → Means g frozen run r) × IsGround g (record run.scene { input = new })
found-token g run who None t new e is ground agrees = absurd is
found-token g run who (Some n) t new e is ground agrees = (
  λ frozen r after. subst (λ d. Does g frozen d run r) (sym e) (numbered-name g run who n t new is ground agrees.1 frozen r after),
  record { view = ground.view; formats = is.view g.view g.formats ground.formats agrees.1 },
)

-- a limit refuses it
pub found-full : (g : Ground) (run : Run) (who : Taker) (number : Option ℕ) (limit : NameLimit) (new : Input) → run.doing ≡ doing.Finds who → Refuses number limit run.scene.input → new ≡ run.scene.input → IsGround g run.scene → Agrees number g.view run.scene.input → ((frozen : Map BoxNode) (r : Result) → FailsNow frozen (error_of limit) g (record run.scene { input = new }) r → Means g frozen run r) × IsGround g (record run.scene { input = new })
found-full g run who number limit new e refuses same ground agrees = (
  λ frozen r fails.
      let depth = depth_of (opens g.view run) in
      let fails-now : Failed (failure (error_of limit) (world g frozen depth run.scene)) ≡ r = subst (λ x. Failed (failure (error_of limit) (world g frozen depth (record run.scene { input = x }))) ≡ r) same (fails depth) in
      subst (λ d. Does g frozen d run r) (sym e) (λ before room from.
      comes-broken (taking g.view who run.frames run.command) (behind g.view who run.frames run.command) before (failure (error_of limit) (world g frozen depth run.scene)) r room
      (from ∙ refuses g.view g.formats (base g frozen depth run.scene) (present before (Name (wanted_text run.scene.input))) ground.formats agrees) fails-now),
  subst (λ x. IsGround g (record run.scene { input = x })) (sym same) ground,
)

-- a new name got a number
pub interned-token : (g : Ground) (run : Run) (who : Taker) (n : ℕ) (t : Tok) (new : Input) → run.doing ≡ doing.Interns who → IsNumbered n run.scene.input t new → IsGround g run.scene → g.view.naming n ≡ wanted_text run.scene.input → ((frozen : Map BoxNode) (r : Result) → ComesTaken g frozen who t (with_input run new) r → Means g frozen run r) × IsGround g (record run.scene { input = new })
interned-token g run who n t new e is ground named = (
  λ frozen r after. subst (λ d. Does g frozen d run r) (sym e) (numbered-name g run who n t new is ground named frozen r after),
  record { view = ground.view; formats = is.view g.view g.formats ground.formats named },
)

-- the names that the session had stay behind the one that has come, if one has
pub grown-same : (own : Own) → IsGrown own own
grown-same own =
    let none : length own - length own ≡ 0 = omega arith in
    (le_refl (length own), ap (λ n. drop n own) none)

grown-if : (there : Bool) (n bytes : ℕ) (own : Own) → IsGrown own (if there then own else (n, bytes) ∷ own)
grown-if true n bytes own = grown-same own
grown-if false n bytes own =
    let longer : length own ≤ length ((n, bytes) ∷ own) = omega arith in
    let one : length ((n, bytes) ∷ own) - length own ≡ 1 = omega arith in
    (longer, ap (λ k. drop k ((n, bytes) ∷ own)) one)

pub names-numbered : (n : ℕ) (old new : Input) (t : Tok) → IsNumbered n old t new → IsGrown old.names new.names
names-numbered n old new t is =
    subst (λ (i : Input). IsGrown old.names i.names) (sym is.becomes) (grown-if (has_name n old) n (bytes_of old.names + length (wanted_text old)) old.names)

pub names-found : (number : Option ℕ) (old new : Input) (t : Tok) → IsSomeAnd number (λ n. IsNumbered n old t new) → IsGrown old.names new.names
names-found None old new t is = absurd is
names-found (Some n) old new t is = names-numbered n old new t is

-- what is asked for tells what a description wants
text-number : Option Op → ℕ
text-number (Some (op.Text n)) = n
text-number _ = 0

asks-text : Option Op → Bool
asks-text (Some (op.Text n)) = true
asks-text _ = false

list-number : Option Op → ℕ
list-number (Some (op.Read id)) = id
list-number _ = 0

asks-list : Option Op → Bool
asks-list (Some (op.Read id)) = true
asks-list _ = false

wanted-text : (o : Option Wanted) (n : ℕ) → asked_for o ≡ Some (op.Text n) → o ≡ Some (wanted.Text n)
unfolding text-number asks-text
wanted-text (Some (wanted.Text m)) n e = ap (λ k. Some (wanted.Text k)) (ap text-number e)
wanted-text (Some (wanted.Content id)) n e = absurd (false≢true (ap asks-text e))
wanted-text (Some (wanted.Frozen k)) n e = absurd (false≢true (ap asks-text e))
wanted-text None n e = absurd (false≢true (ap asks-text e))

wanted-content : (o : Option Wanted) (n : ℕ) → asked_for o ≡ Some (op.Read n) → o ≡ content_wanted (list.Pooled n)
unfolding list-number asks-list
wanted-content (Some (wanted.Text m)) n e = absurd (false≢true (ap asks-list e))
wanted-content (Some (wanted.Content id)) n e = ap (λ k. Some (wanted.Content k)) (ap list-number e)
wanted-content (Some (wanted.Frozen k)) n e = absurd (false≢true (ap asks-list e))
wanted-content None n e = absurd (false≢true (ap asks-list e))

told-wants-text : (f : Option ℕ) (what : Told) (d : Description) (n : ℕ) → asked_after f (doing.Tells what d) ≡ Some (op.Text n) → wants d ≡ Some (wanted.Text n)
unfolding asks-text
told-wants-text None what d n e = wanted-text (wants d) n e
told-wants-text (Some id) what d n e = absurd (false≢true (ap asks-text e))

told-wants-content : (f : Option ℕ) (what : Told) (d : Description) (n : ℕ) → asked_after f (doing.Tells what d) ≡ Some (op.Read n) → wants d ≡ content_wanted (list.Pooled n)
unfolding asks-list
told-wants-content None what d n e = wanted-content (wants d) n e
told-wants-content (Some id) what d n e = absurd (false≢true (ap asks-list e))

-- what comes of a text that is told doesn't depend on what else the run is about to do
pub told-kept : (g : Ground) (frozen : Map BoxNode) (what : Told) (text : List ℕ) (run : Run) (d : Doing) (moves : ℕ) (r : Result) → ComesTold g frozen what text (record run { doing = d; moves = moves }) r → ComesTold g frozen what text run r
told-kept g frozen told.Log text run d moves r after = after
told-kept g frozen (told.Error n) text run d moves r after = after

-- a text that is told goes on by the text of a name
pub told-text : (g : Ground) (run : Run) (what : Told) (d new : Description) (cats : Cats) (text : List ℕ) (n moves : ℕ) → run.doing ≡ doing.Tells what d → cats ≡ run.scene.environment.cats → ((view : View) (k : ℕ) → wants d ≡ Some (wanted.Text k) → view.naming k ≡ text → text_in view cats new ≡ text_in view cats d) → asked run ≡ Some (op.Text n) → g.view.naming n ≡ text → (frozen : Map BoxNode) (r : Result) → ComesTold g frozen what (text_in g.view run.scene.environment.cats new) (record run { doing = doing.Tells what new; moves = moves }) r → Means g frozen run r
told-text g run what d new cats text n moves e same given asks named frozen r after =
    let due = told-wants-text run.fallen what d n (subst (λ x. asked_after run.fallen x ≡ Some (op.Text n)) e asks) in
    let texts : text_in g.view run.scene.environment.cats new ≡ text_in g.view run.scene.environment.cats d = subst (λ k. text_in g.view k new ≡ text_in g.view k d) same (given g.view n due named) in
    subst (λ x. Does g frozen x run r) (sym e) (subst (λ x. ComesTold g frozen what x run r) texts (told-kept g frozen what (text_in g.view run.scene.environment.cats new) run (doing.Tells what new) moves r after))

-- and by the content of a list
pub told-content : (g : Ground) (run : Run) (what : Told) (d new : Description) (tokens : List Tok) (n moves : ℕ) → run.doing ≡ doing.Tells what d → ((view : View) (cats : Cats) (list : ListRef) → wants d ≡ content_wanted list → view.content list ≡ tokens → text_in view cats new ≡ text_in view cats d) → asked run ≡ Some (op.Read n) → g.view.content (list.Pooled n) ≡ tokens → (frozen : Map BoxNode) (r : Result) → ComesTold g frozen what (text_in g.view run.scene.environment.cats new) (record run { doing = doing.Tells what new; moves = moves }) r → Means g frozen run r
told-content g run what d new tokens n moves e given asks content frozen r after =
    let due = told-wants-content run.fallen what d n (subst (λ x. asked_after run.fallen x ≡ Some (op.Read n)) e asks) in
    subst (λ x. Does g frozen x run r) (sym e) (subst (λ x. ComesTold g frozen what x run r) (given g.view run.scene.environment.cats (list.Pooled n) due content) (told-kept g frozen what (text_in g.view run.scene.environment.cats new) run (doing.Tells what new) moves r after))

-- the list that was to be shared
shared-are : (d : Doing) (p : Prefixes) (place : Place) (what : Stored) (held tokens : List Tok) → d ≡ doing.Shares p place what held → shared_tokens d ≡ Some tokens → held ≡ tokens
shared-are d p place what held tokens e is =
    some-same (subst (λ x. shared_tokens x ≡ Some tokens) e is)
  where
    some-same : Some held ≡ Some tokens → held ≡ tokens
    some-same q = ap (λ o. unwrap_or o []) q

-- it is assigned
pub shared-list : (g : Ground) (run : Run) (p : Prefixes) (place : Place) (what : Stored) (held tokens : List Tok) (list : ListRef) (m : Meaning BoxNode) → run.doing ≡ doing.Shares p place what held → ((view : View) → meaning_in view m ≡ stored_meaning what (list_in view list)) → shared_tokens run.doing ≡ Some tokens → g.view.content list ≡ tokens → (frozen : Map BoxNode) (r : Result) → ControlComes g frozen (assigns (prefixes_in p) (address_in g.view place) (meaning_in g.view m)) run r → Means g frozen run r
shared-list g run p place what held tokens list m e means shares content frozen r after =
    let same : g.view.content list ≡ held = content ∙ sym (shared-are run.doing p place what held tokens e shares) in
    let stands : meaning_in g.view m ≡ stored_meaning what (all_viewed g.view held) = means g.view ∙ ap (λ xs. stored_meaning what (all_viewed g.view xs)) same in
    subst (λ x. Does g frozen x run r) (sym e) (subst (λ x. ControlComes g frozen (assigns (prefixes_in p) (address_in g.view place) x) run r) stands after)

-- what is done with a list that was copied, where its tokens are these
pub copied-text : {E : Type 0} (g : Ground) (frozen : Map BoxNode) (k : private.Kind) (around : List Open) (how : Use) (run new : Run) (copied : MayFail (List Tok) E) (t : Tick) (tokens : List Token) (Q : Result → Type 0) → IfOk copied (λ copy. Leads (AnyComes g frozen k around (used how (all_viewed g.view copy)) run) g frozen t new) → OnErr copied (t ≡ tick.Memory) → IfOk copied (λ copy. (view : View) → all_viewed view copy ≡ tokens) → ((r : Result) → AnyComes g frozen k around (used how tokens) run r → Q r) → Leads Q g frozen t new
copied-text g frozen k around how run new (Ok copy) t tokens Q leads memory are on =
    leads-map (AnyComes g frozen k around (used how (all_viewed g.view copy)) run) Q g frozen t new (λ r after. on r (subst (λ x. AnyComes g frozen k around (used how x) run r) (are g.view) after)) leads
copied-text g frozen k around how run new (Err e) t tokens Q leads memory are on = subst (λ x. Leads Q g frozen x new) (sym memory) tt

-- a text that is put in front is another one
pub front-text : (g : Ground) (frozen : Map BoxNode) (k : private.Kind) (around : List Open) (run : Run) (text : List ℕ) (texts : World → List ℕ) (r : Result) → text ≡ texts (world_in g frozen k around run) → AnyComes g frozen k around (λ w. private.Again (put_in_front (tokens_of text) w)) run r → AnyComes g frozen k around (λ w. private.Again (put_in_front (tokens_of (texts w)) w)) run r
front-text g frozen k around run text texts r e after o kind =
    subst (λ x. Comes o around (private.Again (put_in_front (tokens_of x) (world_in g frozen k around run))) r) e (after o kind)

-- the same of a description
pub prints-on : (g : Ground) (frozen : Map BoxNode) (begun : Start) (old new : Description) (run : Run) (r : Result) → text_in g.view run.scene.environment.cats new ≡ text_in g.view run.scene.environment.cats old → Does g frozen (doing.Prints begun new) run r → Does g frozen (doing.Prints begun old) run r
prints-on g frozen begun old new run r e after =
    front-text g frozen (kind_of g.view begun) (opens g.view run) run (text_in g.view run.scene.environment.cats new) (λ w. text_in g.view run.scene.environment.cats old) r e after

pub tells-on : (g : Ground) (frozen : Map BoxNode) (what : Told) (old new : Description) (run : Run) (r : Result) → text_in g.view run.scene.environment.cats new ≡ text_in g.view run.scene.environment.cats old → Does g frozen (doing.Tells what new) run r → Does g frozen (doing.Tells what old) run r
tells-on g frozen what old new run r e after = subst (λ x. ComesTold g frozen what x run r) e after

-- the categories of a scene are those of its world
pub present-categories : (g : Ground) (frozen : Map BoxNode) (depth : ℕ) (s : Scene) → IsSound frozen s.environment → category_of (world g frozen depth s).environment ≡ category_by s.environment.cats
present-categories g frozen depth s sound =
    sym (categories-are g.view s.environment.cats (now frozen s.environment.table) (outside frozen s.environment.table s.environment.saves) (groups s.environment.saves) sound.present)

-- what is printed of a token and of a meaning
pub printed-token : (g : Ground) (frozen : Map BoxNode) (depth : ℕ) (s : Scene) (p : Print) (t : Tok) (escape : ℤ) (text : List ℕ) → p ≡ print.Token t → text ≡ shown_token escape (viewed g.view t) → escape ≡ parameter_of (world g frozen depth s).environment EscapeChar → text ≡ printed g.view p (world g frozen depth s)
printed-token g frozen depth s p t escape text is shows e =
    shows ∙ ap (λ n. shown_token n (viewed g.view t)) e ∙ ap (λ x. printed g.view x (world g frozen depth s)) (sym is)

pub described-meaning : (g : Ground) (frozen : Map BoxNode) (depth : ℕ) (s : Scene) (m : Sense) (escape : ℤ) (d : Description) → IsSound frozen s.environment → ((view : View) (cats : Cats) (e : Environment) → category_of e ≡ category_by cats → text_in view cats d ≡ described e escape (sense_in view m)) → escape ≡ parameter_of (world g frozen depth s).environment EscapeChar → text_in g.view s.environment.cats d ≡ meaning_text (world g frozen depth s).environment (sense_in g.view m)
described-meaning g frozen depth s m escape d sound shows e =
    shows g.view s.environment.cats (world g frozen depth s).environment (present-categories g frozen depth s sound) ∙ ap (λ n. described (world g frozen depth s).environment n (sense_in g.view m)) e

-- what is printed of a list
pub described-list : (g : Ground) (frozen : Map BoxNode) (depth : ℕ) (s : Scene) (tokens : List Tok) (escape : ℤ) (d : Description) → IsSound frozen s.environment → ((view : View) (cats : Cats) → text_in view cats d ≡ flat_map (shown_in_list (category_by cats) escape) (all_viewed view tokens)) → escape ≡ parameter_of (world g frozen depth s).environment EscapeChar → text_in g.view s.environment.cats d ≡ text_of_list (all_viewed g.view tokens) (world g frozen depth s)
described-list g frozen depth s tokens escape d sound shows e =
    shows g.view s.environment.cats
    ∙ ap (λ category. flat_map (shown_in_list category escape) (all_viewed g.view tokens)) (sym (present-categories g frozen depth s sound))
    ∙ ap (λ n. flat_map (shown_in_list (category_of (world g frozen depth s).environment) n) (all_viewed g.view tokens)) e

-- an error shows what something means
pub shows-meaning : (g : Ground) (frozen : Map BoxNode) (number : ErrorNo) (text shown : List ℕ) (run : Run) (r : Result) (o : Open) (around : List Open) (depth : ℕ) → text ≡ shown → ((o : Open) (around : List Open) (depth : ℕ) → Comes o around (tells (told.Error number) text (world g frozen depth run.scene)) r) → Comes o around (private.Bad (record { number = number; shown = shown }) (world g frozen depth run.scene)) r
shows-meaning g frozen number text shown run r o around depth e after =
    subst (λ x. Comes o around (private.Bad (record { number = number; shown = x }) (world g frozen depth run.scene)) r) e (after o around depth)

-- the same, where the tokens are those of a list of the format
pub copied-list : {E : Type 0} (format : Engineless) (g : Ground) (frozen : Map BoxNode) (k : private.Kind) (around : List Open) (how : Use) (run new : Run) (copied : MayFail (List Tok) E) (t : Tick) (place : ℕ) (reference : ListRef) → reference ≡ list.Frozen place → IsGroundOf format g run.scene → IfOk copied (λ copy. Leads (AnyComes g frozen k around (used how (all_viewed g.view copy)) run) g frozen t new) → OnErr copied (t ≡ tick.Memory) → IfOk copied (λ copy. (copy ≡ list_at format.lists place) × (place < length format.lists)) → Leads (AnyComes g frozen k around (used how (list_in g.view reference)) run) g frozen t new
copied-list format g frozen k around how run new (Ok copy) t place reference e ground leads memory are =
    subst (λ xs. Leads (AnyComes g frozen k around (used how (all_viewed g.view xs)) run) g frozen t new) (are.0 ∙ sym (ground.lists place are.1) ∙ ap g.view.content (sym e)) leads
copied-list format g frozen k around how run new (Err e) t place reference is ground leads memory are = subst (λ x. Leads (AnyComes g frozen k around (used how (list_in g.view reference)) run) g frozen x new) (sym memory) tt

-- main control goes on in another world
pub told-log : (g : Ground) (frozen : Map BoxNode) (what : Told) (text : List ℕ) (run : Run) (after : Scene) (r : Result) → what ≡ told.Log → ((depth : ℕ) → world g frozen depth after ≡ logged text (world g frozen depth run.scene)) → ((o : Open) → o.kind ≡ private.Control → Comes o [] (private.Again (world g frozen (depth_of (begun private.Control ∷ [])) after)) r) → ComesTold g frozen what text run r
told-log g frozen what text run after r is e comes =
    subst (λ x. ComesTold g frozen x text run r) (sym is) (λ o kind. subst (λ w. Comes o [] (private.Again w) r) (e (depth_of (begun private.Control ∷ []))) (comes o kind))

-- an error is met
pub told-error : (g : Ground) (frozen : Map BoxNode) (what : Told) (number : ErrorNo) (text : List ℕ) (run : Run) (r : Result) → what ≡ told.Error number → FailsNow frozen (record { number = number; shown = text }) g run.scene r → ComesTold g frozen what text run r
told-error g frozen what number text run r is fails =
    subst (λ x. ComesTold g frozen x text run r) (sym is) (λ o around depth. comes-bad o around (world g frozen depth run.scene) (record { number = number; shown = text }) r (fails depth))

-- whatever is about to be done, the first categories are those of the map before the region
pub sound-first : (frozen : Map BoxNode) (d : Doing) (s : Scene) → IsSoundFor frozen d s → IsFirst frozen s.environment
sound-first frozen doing.Closes s sound = sound.0.first
sound-first frozen (doing.Finds who) s sound = sound.0.first
sound-first frozen (doing.Interns who) s sound = sound.0.first
sound-first frozen doing.NoMemory s sound = sound
sound-first frozen _ s sound = sound.first
