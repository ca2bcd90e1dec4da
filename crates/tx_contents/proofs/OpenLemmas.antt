-- The open readings that are known stand for the same where other lists than the known ones have other contents.
use Rattle.std.proofs.Common.{◌≡◌, Bool, true, false, List, [], ◌∷◌, refl}
use Rattle.tx_tok.specs.declared.tok.Tok.{Tok}
use Rattle.tx_tok.specs.declared.tok.ListRef.{ListRef}
use Rattle.tx_private.specs.World.{World}
use Rattle.tx_private.specs.Meanings.{Address}
use Rattle.tx_private.specs.Readings as private
use Rattle.tx_private.specs.Lists.{balanced}
use Rattle.tx_private.specs.Expansions.{the_of}
use Rattle.tx_private.specs.Scans.{scan_from}
use Rattle.tx_private.specs.Assignments.{Prefixes, defined, future_let}
use Rattle.tx_views.specs.Views.{View, all_viewed}
use Rattle.tx_views.specs.Places.{address_in}
use Rattle.tx_assign.specs.Assigned.{prefixes_in}
use Rattle.tx_amounts.specs.Automata.{reading, begins, amount_in}
use Rattle.tx_amounts.specs.Backs.{given}
use Rattle.tx_amounts.specs.Scanning as scans
use Rattle.tx_frames.specs.declared.reading.TextKind.{TextKind}
use Rattle.tx_frames.specs.declared.reading.TextKind.TheVariants as text
use Rattle.tx_frames.specs.declared.frame.Text.{Text}
use Rattle.tx_frames.specs.declared.frame.ListStage.{ListStage}
use Rattle.tx_frames.specs.declared.frame.ListStage.TheVariants as list
use Rattle.tx_frames.specs.declared.frame.Stage.{Stage}
use Rattle.tx_frames.specs.declared.frame.Stage.TheVariants as stage
use Rattle.tx_frames.specs.declared.frame.Frame.{Frame}
use Rattle.tx_frames.specs.declared.frame.Frame.TheVariants as frame
use Rattle.tx_frames.specs.Frames.{is_body, text_wish, list_wish, stage_wish, wish_of, text_says, stage_says, kind_of, says, open_of}
use Rattle.tx_frames.specs.Knowledge.{Known, KnowsList, KnowsWish, KnowsStage, KnowsFrame}
use Rattle.tx_frames.proofs.KnowledgeLemmas.{knows-scan_wish}
use Rattle.tx_commands.specs.declared.command.Assign.{Assign}
use Rattle.tx_commands.specs.declared.command.Assign.TheVariants as assign
use Rattle.tx_commands.specs.declared.command.DefineStage.{DefineStage}
use Rattle.tx_commands.specs.declared.command.DefineStage.TheVariants as define
use Rattle.tx_commands.specs.declared.command.FutureLetStage.{FutureLetStage}
use Rattle.tx_commands.specs.declared.command.FutureLetStage.TheVariants as future
use Rattle.tx_commands.specs.declared.command.Stage as command_stage
use Rattle.tx_commands.specs.declared.command.Stage.TheVariants as waiting
use Rattle.tx_commands.specs.declared.command.Named.{Named}
use Rattle.tx_commands.specs.declared.command.Named.TheVariants as named
use Rattle.tx_commands.specs.declared.command.Arithmetic.{Arithmetic}
use Rattle.tx_commands.specs.declared.command.Arithmetic.TheVariants as computing
use Rattle.tx_commands.specs.declared.command.Command.{Command}
use Rattle.tx_commands.specs.declared.command.Command.TheVariants as command
use Rattle.tx_commands.specs.Commands as commands
use Rattle.tx_commands.specs.Wishes as command_wishes
use Rattle.tx_commands.specs.Knowledge.{KnowsAssign, KnowsDefine, KnowsFutureLet, KnowsNamed, KnowsArithmetic, KnowsControl}
use Rattle.tx_contents.proofs.ViewLemmas.{with_content, sense-same, command-same, begun-same, reading-same, wish-same}

-- the wishes of what is known are known
module _ (known : Known) where
  text-wish : (k : TextKind) → KnowsWish known (text_wish k)
  text-wish text.Plain = tt
  text-wish text.Body = tt
  text-wish text.Expanded = tt
  text-wish text.ExpandedBody = tt

  list-wish : (s : ListStage) → KnowsWish known (list_wish s)
  list-wish list.Start = tt
  list-wish list.Register = tt
  list-wish (list.Braced b) = tt

  stage-wish : (s : Stage) → KnowsStage known s → KnowsWish known (stage_wish s)
  stage-wish (stage.TheQuantity t s) h = h
  stage-wish _ h = tt

  pub frame-wish : (f : Frame) → KnowsFrame known f → KnowsWish known (wish_of f)
  frame-wish frame.LeftBrace h = tt
  frame-wish frame.Equals h = tt
  frame-wish (frame.Scan r s) h = knows-scan_wish known s.begun (scans.wish_of s) (given s.taken.items) h.1.0 h.1.1
  frame-wish (frame.Quantity t a) h = tt
  frame-wish (frame.Text x) h = text-wish x.kind
  frame-wish (frame.List s) h = list-wish s
  frame-wish (frame.Expansion text s) h = stage-wish s h

  assign-wish : (s : Assign) → KnowsAssign known s → KnowsWish known (command_wishes.assign_wish s)
  assign-wish (assign.Register kind) h = tt
  assign-wish (assign.Code table) h = tt
  assign-wish (assign.Equals at) h = tt
  assign-wish (assign.Value at r) h = h.1

  define-wish : (expands : Bool) (s : DefineStage) → KnowsWish known (command_wishes.define_wish expands s)
  define-wish expands define.Brace = tt
  define-wish expands (define.Body t s) = tt

  waiting-wish : (s : command_stage.Stage) → KnowsWish known (command_wishes.stage_wish s)
  waiting-wish waiting.Equals = tt
  waiting-wish waiting.Number = tt

  named-wish : (n : Named) → KnowsWish known (command_wishes.named_wish n)
  named-wish (named.Define expands s) = define-wish expands s
  named-wish (named.Let s) = tt
  named-wish (named.FutureLet s) = tt
  named-wish (named.Stand what s) = waiting-wish s

  arithmetic-wish : (s : Arithmetic) → KnowsArithmetic known s → KnowsWish known (command_wishes.arithmetic_wish s)
  arithmetic-wish computing.Target h = tt
  arithmetic-wish (computing.Register kind) h = tt
  arithmetic-wish (computing.By at) h = tt
  arithmetic-wish (computing.Operand at k r) h = h.1

  braced-wish : (k : TextKind) (braced : Bool) → KnowsWish known (command_wishes.text_wish k braced)
  braced-wish k false = tt
  braced-wish k true = tt

  pub control-wish : (c : Command) → KnowsControl known c → KnowsWish known (command_wishes.wish_of c)
  control-wish command.Start h = tt
  control-wish (command.Prefixed p) h = tt
  control-wish (command.Assign p s) h = assign-wish s h
  control-wish (command.Name p n) h = tt
  control-wish (command.Named p at n) h = named-wish n
  control-wish (command.Arithmetic p o s) h = arithmetic-wish s h
  control-wish (command.After a) h = tt
  control-wish (command.Message m braced) h = braced-wish text.Expanded braced
  control-wish (command.ChangeCase l braced) h = braced-wish text.Plain braced
  control-wish command.IgnoreSpaces h = tt

module _ (view : View) (content : ListRef → List Tok) (known : Known) (same : (l : ListRef) → KnowsList known l → view.content l ≡ content l) where
  abbrev other : View
  other = with_content view content

  -- what a reading says of the items to come
  text-says : (x : Text) (items : List private.Item) (w : World) → text_says view x items w ≡ text_says other x items w
  text-says x items w = λ i. balanced (is_body x.kind) (λ v. wish-same view content known same (text_wish x.kind) (text-wish known x.kind) v i) x.groups (all_viewed view x.tokens) items w

  stage-says : (text : Bool) (s : Stage) → KnowsStage known s → (items : List private.Item) (w : World) → stage_says view text s items w ≡ stage_says other text s items w
  stage-says text (stage.TheQuantity t s) h items w = λ i. the_of text (command-same view content known same t s h.1 i) (sense-same view content known same s h.1 i) items w
  stage-says text _ h items w = refl

  frame-kind : (f : Frame) → KnowsFrame known f → kind_of view f ≡ kind_of other f
  frame-kind (frame.Scan r s) h = reading-same view content known same r h.0
  frame-kind _ h = refl

  frame-says : (f : Frame) → KnowsFrame known f → (items : List private.Item) (w : World) → says view f items w ≡ says other f items w
  frame-says (frame.Scan r s) h items w = λ i. scan_from (begins s.automaton) (reading s.automaton) amount_in [] (scans.taken_in view s.taken.items) (begun-same view content known same s.begun h.1.1 i) items w
  frame-says (frame.Text x) h items w = text-says x items w
  frame-says (frame.Expansion text s) h items w = stage-says text s h items w
  frame-says _ h items w = refl

  pub frame-same : (f : Frame) → KnowsFrame known f → open_of view f ≡ open_of other f
  frame-same f h = λ i. record { kind = frame-kind f h i; says = λ item later w. frame-says f h (item ∷ later) w i }

  -- what main control's command says of them
  define-says : (p : Prefixes) (expands : Bool) (at : Address) (s : DefineStage) → KnowsDefine known s → (items : List private.Item) (w : World) → commands.define_says view p expands at s items w ≡ commands.define_says other p expands at s items w
  define-says p expands at define.Brace h items w = refl
  define-says p expands at (define.Body t s) h items w = λ i. defined p expands at (private.Tok (command-same view content known same t s h.1 i) ∷ items) w

  future-says : (p : Prefixes) (at : Address) (s : FutureLetStage) → KnowsFutureLet known s → (items : List private.Item) (w : World) → commands.future_let_says view p at s items w ≡ commands.future_let_says other p at s items w
  future-says p at future.First h items w = refl
  future-says p at (future.Second t s) h items w = λ i. future_let p at (private.Tok (command-same view content known same t s h.1 i) ∷ items) w

  named-says : (p : Prefixes) (at : Address) (n : Named) → KnowsNamed known n → (items : List private.Item) (w : World) → commands.named_says view p at n items w ≡ commands.named_says other p at n items w
  named-says p at (named.Define expands s) h items w = define-says p expands at s h items w
  named-says p at (named.FutureLet s) h items w = future-says p at s h items w
  named-says p at _ h items w = refl

  control-says : (c : Command) → KnowsControl known c → (items : List private.Item) (w : World) → commands.says view c items w ≡ commands.says other c items w
  control-says (command.Named p at n) h items w = named-says (prefixes_in p) (address_in view at) n h.1 items w
  control-says _ h items w = refl

  pub control-same : (c : Command) → KnowsControl known c → commands.open_of view c ≡ commands.open_of other c
  control-same c h = λ i. record { kind = private.Control; says = λ item later w. control-says c h (item ∷ later) w i }
