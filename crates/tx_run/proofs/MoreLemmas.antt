-- What is known stays known where more is.
use Rattle.std.proofs.Common.{◌≡◌, ℕ, ◌+◌, Bool, true, List, [], ◌∷◌, Option, Some, None, IsTrue}
use Rattle.std.specs.List.{All, AllByRecursion}
use Rattle.std.proofs.lemmas.List.Elements.{All-from_recursion, recursion_from_All}
use Rattle.tx_tok.specs.declared.tok.Tok.{Tok}
use Rattle.tx_tok.specs.declared.tok.Tok.TheVariants as tok
use Rattle.tx_tok.specs.declared.tok.ListRef.{ListRef}
use Rattle.tx_tok.specs.declared.tok.ListRef.TheVariants as list
use Rattle.tx_node.specs.declared.BoxNode.{BoxNode}
use Rattle.tx_eqtb.specs.declared.meaning.Meaning.{Meaning}
use Rattle.tx_eqtb.specs.declared.meaning.Meaning.TheVariants as meaning
use Rattle.tx_views.specs.declared.sense.Sense.{Sense}
use Rattle.tx_views.specs.declared.sense.Sense.TheVariants as sense
use Rattle.tx_views.specs.declared.place.Place.{Place}
use Rattle.tx_views.specs.declared.place.Place.TheVariants as place
use Rattle.tx_describe.specs.declared.rest.Rest.{Rest}
use Rattle.tx_describe.specs.declared.rest.Rest.TheVariants as rest
use Rattle.tx_describe.specs.Rests as described
use Rattle.tx_describe.specs.Descriptions.{Knows}
use Rattle.tx_describe.specs.declared.description.Description.{Description}
use Rattle.tx_amounts.specs.declared.begun.Begun.{Begun}
use Rattle.tx_amounts.specs.declared.scan.Scan.{Scan}
use Rattle.tx_amounts.specs.Names.{scan_tokens}
use Rattle.tx_frames.specs.declared.reading.Reading.{Reading}
use Rattle.tx_frames.specs.declared.reading.Reading.TheVariants as reading
use Rattle.tx_frames.specs.declared.frame.Stage.{Stage}
use Rattle.tx_frames.specs.declared.frame.Stage.TheVariants as stage
use Rattle.tx_frames.specs.declared.frame.Frame.{Frame}
use Rattle.tx_frames.specs.declared.frame.Frame.TheVariants as frame
use Rattle.tx_frames.specs.declared.value.Value.{Value}
use Rattle.tx_frames.specs.declared.value.Value.TheVariants as value
use Rattle.tx_frames.specs.Knowledge.{Known, KnowsToken, KnowsTokens, KnowsList, KnowsSense, KnowsCommand, KnowsPlace, KnowsReading, KnowsBegun, KnowsScan, KnowsStage, KnowsFrame, KnowsValue}
use Rattle.tx_commands.specs.declared.command.Assign.{Assign}
use Rattle.tx_commands.specs.declared.command.Assign.TheVariants as assign
use Rattle.tx_commands.specs.declared.command.DefineStage.{DefineStage}
use Rattle.tx_commands.specs.declared.command.DefineStage.TheVariants as define
use Rattle.tx_commands.specs.declared.command.FutureLetStage.{FutureLetStage}
use Rattle.tx_commands.specs.declared.command.FutureLetStage.TheVariants as future
use Rattle.tx_commands.specs.declared.command.Named.{Named}
use Rattle.tx_commands.specs.declared.command.Named.TheVariants as named
use Rattle.tx_commands.specs.declared.command.Arithmetic.{Arithmetic}
use Rattle.tx_commands.specs.declared.command.Arithmetic.TheVariants as computing
use Rattle.tx_commands.specs.declared.command.Command.{Command}
use Rattle.tx_commands.specs.declared.command.Command.TheVariants as command
use Rattle.tx_commands.specs.Knowledge.{KnowsAssign, KnowsDefine, KnowsFutureLet, KnowsNamed, KnowsArithmetic, KnowsControl, KnowsMeaning}
use Rattle.tx_run.specs.declared.doing.Start.{Start}
use Rattle.tx_run.specs.declared.doing.Start.TheVariants as start
use Rattle.tx_run.specs.declared.doing.Doing.{Doing}
use Rattle.tx_run.specs.declared.doing.Doing.TheVariants as doing
use Rattle.tx_run.specs.Knowledge.{KnowsStart, KnowsDoing, KnowsOpen, KnowsBehind}

-- what is known by the first is known by the second
pub record Below (known more : Known) : Type 0 where
  pub names : (n : ℕ) → known.name n ≡ true → more.name n ≡ true
  pub lists : (l : ListRef) → known.list l ≡ true → more.list l ≡ true

module _ (known more : Known) (below : Below known more) where
  pub more-token : (t : Tok) → KnowsToken known t → KnowsToken more t
  more-token (tok.Name n) h = below.names n h
  more-token _ h = tt

  pub more-tokens : (ts : List Tok) → KnowsTokens known ts → KnowsTokens more ts
  more-tokens [] h = tt
  more-tokens (t ∷ ts) h = (more-token t h.0, more-tokens ts h.1)

  pub more-list : (l : ListRef) → KnowsList known l → KnowsList more l
  more-list list.Empty h = tt
  more-list (list.Frozen k) h = below.lists (list.Frozen k) h
  more-list (list.Pooled id) h = below.lists (list.Pooled id) h

  pub more-sense : (s : Sense) → KnowsSense known s → KnowsSense more s
  more-sense (sense.Macro long protected list) h = more-list list h
  more-sense (sense.List list) h = more-list list h
  more-sense _ h = tt

  more-command : (t : Tok) (s : Sense) → KnowsCommand known t s → KnowsCommand more t s
  more-command t s h = (more-token t h.0, more-sense s h.1)

  pub more-place : (p : Place) → KnowsPlace known p → KnowsPlace more p
  more-place (place.Name n) h = below.names n h
  more-place _ h = tt

  pub more-reading : (r : Reading) → KnowsReading known r → KnowsReading more r
  more-reading (reading.Quantity t s) h = more-command t s h
  more-reading _ h = tt

  more-begun : (b : Option Begun) → KnowsBegun known b → KnowsBegun more b
  more-begun None h = tt
  more-begun (Some b) h = more-sense b.sense h

  more-scan : (s : Scan) → KnowsScan known s → KnowsScan more s
  more-scan s h = (more-tokens (scan_tokens s) h.0, more-begun s.begun h.1)

  more-stage : (s : Stage) → KnowsStage known s → KnowsStage more s
  more-stage (stage.TheQuantity t s) h = more-command t s h
  more-stage _ h = tt

  pub more-frame : (f : Frame) → KnowsFrame known f → KnowsFrame more f
  more-frame frame.LeftBrace h = tt
  more-frame frame.Equals h = tt
  more-frame (frame.Scan r s) h = (more-reading r h.0, more-scan s h.1)
  more-frame (frame.Quantity t a) h = more-token t h
  more-frame (frame.Text x) h = more-tokens x.tokens h
  more-frame (frame.List s) h = tt
  more-frame (frame.Expansion text s) h = more-stage s h

  pub more-frames : (fs : List Frame) → AllByRecursion (KnowsFrame known) fs → AllByRecursion (KnowsFrame more) fs
  more-frames [] h = tt
  more-frames (f ∷ fs) h = (more-frame f h.0, more-frames fs h.1)

  more-value : (v : Value) → KnowsValue known v → KnowsValue more v
  more-value (value.Command t s) h = more-command t s h
  more-value (value.Tokens tokens) h = more-tokens tokens h
  more-value _ h = tt

  pub more-start : (s : Start) → KnowsStart known s → KnowsStart more s
  more-start (start.Expanded text) h = tt
  more-start (start.Within r) h = more-reading r h

  more-assign : (a : Assign) → KnowsAssign known a → KnowsAssign more a
  more-assign (assign.Equals at) h = more-place at h
  more-assign (assign.Value at r) h = (more-place at h.0, more-reading r h.1)
  more-assign _ h = tt

  more-define : (s : DefineStage) → KnowsDefine known s → KnowsDefine more s
  more-define define.Brace h = tt
  more-define (define.Body t s) h = more-command t s h

  more-future : (s : FutureLetStage) → KnowsFutureLet known s → KnowsFutureLet more s
  more-future future.First h = tt
  more-future (future.Second t s) h = more-command t s h

  more-named : (n : Named) → KnowsNamed known n → KnowsNamed more n
  more-named (named.Define expands s) h = more-define s h
  more-named (named.FutureLet s) h = more-future s h
  more-named _ h = tt

  more-arithmetic : (a : Arithmetic) → KnowsArithmetic known a → KnowsArithmetic more a
  more-arithmetic (computing.By at) h = more-place at h
  more-arithmetic (computing.Operand at k r) h = (more-place at h.0, more-reading r h.1)
  more-arithmetic _ h = tt

  pub more-control : (c : Command) → KnowsControl known c → KnowsControl more c
  more-control (command.Assign p s) h = more-assign s h
  more-control (command.Named p at n) h = (more-place at h.0, more-named n h.1)
  more-control (command.Arithmetic p o s) h = more-arithmetic s h
  more-control _ h = tt

  more-meaning : (m : Meaning BoxNode) → KnowsMeaning known m → KnowsMeaning more m
  more-meaning (meaning.Macro long protected list) h = more-list list h
  more-meaning (meaning.List list) h = more-list list h
  more-meaning _ h = tt

  more-shown : (t : Tok) → described.KnowsToken known.name t → described.KnowsToken more.name t
  more-shown (tok.Name n) h = below.names n h
  more-shown _ h = tt

  more-all-shown : (ts : List Tok) → AllByRecursion (described.KnowsToken known.name) ts → AllByRecursion (described.KnowsToken more.name) ts
  more-all-shown [] h = tt
  more-all-shown (t ∷ ts) h = (more-shown t h.0, more-all-shown ts h.1)

  more-content : (l : ListRef) → described.KnowsList known.list l → described.KnowsList more.list l
  more-content list.Empty h = tt
  more-content (list.Frozen k) h = below.lists (list.Frozen k) h
  more-content (list.Pooled id) h = below.lists (list.Pooled id) h

  more-meant : (s : Sense) → described.KnowsSense known.list s → described.KnowsSense more.list s
  more-meant (sense.Macro long protected list) h = more-content list h
  more-meant _ h = tt

  more-rest : (x : Rest) → described.KnowsRest known.name known.list x → described.KnowsRest more.name more.list x
  more-rest rest.Nothing h = tt
  more-rest (rest.Token t) h = more-shown t h
  more-rest (rest.Tokens tokens) h =
      All-from_recursion (described.KnowsToken more.name) tokens (more-all-shown tokens (recursion_from_All (described.KnowsToken known.name) tokens h))
  more-rest (rest.Content list) h = more-content list h
  more-rest (rest.Meaning s) h = more-meant s h

  pub more-described : (d : Description) → Knows known.name known.list d → Knows more.name more.list d
  more-described d h = more-rest d.rest h

  pub more-doing : (d : Doing) → KnowsDoing known d → KnowsDoing more d
  more-doing (doing.Begins s) h = more-start s h
  more-doing (doing.Gives v) h = more-value v h
  more-doing (doing.GivesList list) h = more-list list h
  more-doing (doing.Took who t) h = more-token t h
  more-doing (doing.Letter n) h = below.names n h
  more-doing (doing.Lettered t letter) h = more-token t h
  more-doing (doing.Reads s how id) h = (more-start s h.0, more-list (list.Pooled id) h.1)
  more-doing (doing.Copies s how tokens) h = (more-start s h.0, more-tokens tokens h.1)
  more-doing (doing.Prints s d) h = (more-start s h.0, more-described d h.1)
  more-doing (doing.Tells what d) h = more-described d h
  more-doing (doing.Shares p at what tokens) h = (more-place at h.0, more-tokens tokens h.1)
  more-doing (doing.Takes p at m id) h = (more-place at h.0, more-meaning m h.1, h.2)
  more-doing (doing.Assigns p at m) h = (more-place at h.0, more-meaning m h.1)
  more-doing _ h = tt

  pub more-open : (fs : List Frame) (c : Command) → KnowsOpen known fs c → KnowsOpen more fs c
  more-open fs c h = record { readings = more-frames fs h.readings; control = more-control c h.control }

  pub more-behind : (d : Doing) (fs : List Frame) (c : Command) → KnowsBehind known d fs c → KnowsBehind more d fs c
  more-behind doing.Wishes fs c h = more-open fs c h
  more-behind (doing.Begins s) fs c h = more-open fs c h
  more-behind (doing.Gives v) fs c h = more-open fs c h
  more-behind (doing.GivesList list) fs c h = more-open fs c h
  more-behind (doing.Finds who) fs c h = more-open fs c h
  more-behind (doing.Interns who) fs c h = more-open fs c h
  more-behind (doing.Took who t) fs c h = more-open fs c h
  more-behind (doing.Letter n) fs c h = more-open fs c h
  more-behind (doing.Lettered t letter) fs c h = more-open fs c h
  more-behind (doing.Reads s how id) fs c h = more-open fs c h
  more-behind (doing.Copies s how tokens) fs c h = more-open fs c h
  more-behind (doing.Prints s d) fs c h = more-open fs c h
  more-behind _ fs c h = tt
