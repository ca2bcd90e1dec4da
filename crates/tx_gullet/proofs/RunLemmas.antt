-- What comes of items and tokens, for the innermost open reading and those around it.
use Rattle.std.proofs.Common.{◌≡◌, ◌≢◌, arith, ℕ, max, false, List, [], ◌∷◌, ◌++◌, drop, length, map, reverse, refl, sym, ◌∙◌, ap, subst}
use Rattle.std.specs.Prelude.{Result as MayFail, Ok, Err, IfOk}
use Rattle.std.proofs.lemmas.List.{length-reverse}
use Rattle.tx_model.specs.declared.error.Error.{Error}
use Rattle.tx_model.specs.declared.error.Error.TheVariants.{NotBuilt}
use Rattle.tx_model.specs.World.{World, Output, Failure, failure, Finds-none, Spends, Breaks, taking}
use Rattle.tx_model.specs.Moves.{Kind, Move, Sub, Take, Again, Done, Bad, expansion}
use Rattle.tx_model.specs.Moves as moves
use Rattle.tx_model.specs.Reads.{Result, Gave, Failed, Spent}
use Rattle.tx_model.specs.Opens.{Open, begun, Then, ComesGiven, GoesOn}
use Rattle.tx_model.specs.Opens as opens
use Rattle.tx_model.proofs.Opens.{comes-end, comes-spent, comes-broken, comes-text-end, comes-expanding-spent, comes-expanding-broken, given-goes, given-within, given-again, given-done, given-bad, comes-to-end}
use Rattle.tx_names.specs.Names.{Names, Naming, KeepsApart, Agrees}
use Rattle.tx_model.specs.Tokens.{Token}
use Rattle.tx_model.specs.Scanner.{Rest}
use Rattle.tx_model.specs.Pending.{Member, Single, Text, line_number}
use Rattle.tx_model.specs.Environment.{Map}
use Rattle.tx_model.specs.Region.{Outcome, Region, started, outcome_of, left_by}
use Rattle.tx_tok.specs.Tokens.{tokens_in}
use Rattle.tx_gullet.specs.declared.frame.Wish.{Wish}
use Rattle.tx_gullet.specs.declared.frame.Wish.TheVariants as wish
use Rattle.tx_gullet.specs.declared.frame.Frame.{Frame}
use Rattle.tx_gullet.specs.declared.frame.Frame.TheVariants as frame
use Rattle.tx_gullet.specs.declared.frame.Waiting.{Waiting}
use Rattle.tx_gullet.specs.declared.frame.Waiting.TheVariants as waiting
use Rattle.tx_gullet.specs.declared.frame.Answer.{Answer}
use Rattle.tx_gullet.specs.declared.frame.Answer.TheVariants as answer
use Rattle.tx_gullet.specs.Frames.{Comes, kind_of, says, awaits, open_of, waiting_of, outer_of, wish_of, wished, end_item, KnowsFrame}
use Rattle.tx_gullet.specs.Runs.{EndsBy, Begins, Ends, ComesTo, outer, state_of, left_in}
use Rattle.tx_gullet.specs.declared.outcome.Outcome.{Outcome as RunOutcome}
use Rattle.tx_gullet.specs.Levels.{levels}
use Rattle.tx_gullet.specs.Outcomes.{region_outcome}
use Rattle.tx_gullet.specs.declared.running.Running.{Running}
use Rattle.tx_gullet.specs.declared.input.ListRead.{ListRead}
use Rattle.tx_gullet.specs.declared.input.Lists.{Lists}
use Rattle.tx_gullet.specs.Pieces.{pieces, left_of}
use Rattle.tx_gullet.specs.Scenes.{Grows}
use Rattle.tx_gullet.proofs.SceneLemmas.{are-known-more}
use Rattle.tx_gullet.proofs.LevelLemmas.{reverse-last}

-- the innermost reading says its wish
pub says-wish : (naming : Naming) (f : Frame) (w : World) → says naming f [] w ≡ wished (wish_of f)
unfolding moves.move_in
says-wish naming frame.Control w = refl
says-wish naming frame.Message w = refl
says-wish naming frame.Definition w = refl
says-wish naming (frame.DefinitionOf n) w = refl
says-wish naming (frame.Balanced k text) w = refl

-- what comes of an item for an open reading
pub answered : (naming : Naming) (kind : Kind) (say : List moves.Item → World → Move) (i : moves.Item) (w w' : World) (a : Answer) (around : List Open) (r : Result) → Comes naming (record { kind = kind; says = say }) i w a w' → EndsBy naming a around w' r → ComesGiven (record { kind = kind; says = say }) i around w r
answered naming kind say i w w' (answer.Goes f) around r h e =
    subst (λ k. ComesGiven (record { kind = k; says = say }) i around w r) h.0
    (given-goes (kind_of f) say (says naming f) i around w r h.1 (subst (λ v. opens.Comes (open_of naming f) around v r) h.2 e))
answered naming kind say i w w' (answer.Within x f) around r h e =
    subst (λ k. ComesGiven (record { kind = k; says = say }) i around w r) (sym h.0)
    (given-within moves.Control say (awaits naming x) i (open_of naming f) around w r h.1 (h.2 w) h.3 (subst (λ v. opens.Comes (open_of naming f) (waiting_of naming x ∷ around) v r) h.4 e))
answered naming kind say i w w' answer.Again around r h e =
    subst (λ k. ComesGiven (record { kind = k; says = say }) i around w r) (sym h.0)
    (given-again moves.Control say i around w w' r h.1 e)
answered naming kind say i w w' (answer.Done v) around r h e = given-done kind say i around w w' _ r h e
answered naming kind say i w w' (answer.Wrong error) around r h e = given-bad kind say i around w w error r h.0 (ap Failed h.1 ∙ e)
answered naming kind say i w w' answer.Memory around r h e = absurd e

-- the readings around, after one began to wait
pub outer-pushed : (naming : Naming) (waiting more : List Waiting) (x : Waiting) → more ≡ waiting ++ x ∷ [] → outer_of naming more ≡ waiting_of naming x ∷ outer_of naming waiting
outer-pushed naming waiting more x e = ap (outer_of naming) e ∙ ap (map (waiting_of naming)) (reverse-last waiting x)

-- no step is left, or no token can be made, however the token is wished for
pub wish-spent : (naming : Naming) (f : Frame) (around : List Open) (w : World) (output : Output) (r : Result) → taking w ≡ Spends output → Spent output ≡ r → opens.Comes (open_of naming f) around w r
wish-spent naming f around w output r spends e = by-wish (wish_of f) (says-wish naming f w)
  where
    by-wish : (k : Wish) → says naming f [] w ≡ wished k → opens.Comes (open_of naming f) around w r
    by-wish wish.Plain s = comes-spent (open_of naming f) around w output r s spends e
    by-wish wish.Expanded s = comes-expanding-spent (open_of naming f) around w output r s spends e

pub wish-broken : (naming : Naming) (f : Frame) (around : List Open) (w : World) (failed : Failure) (r : Result) → taking w ≡ Breaks failed → Failed failed ≡ r → opens.Comes (open_of naming f) around w r
wish-broken naming f around w failed r breaks e = by-wish (wish_of f) (says-wish naming f w)
  where
    by-wish : (k : Wish) → says naming f [] w ≡ wished k → opens.Comes (open_of naming f) around w r
    by-wish wish.Plain s = comes-broken (open_of naming f) around w failed r s breaks e
    by-wish wish.Expanded s = comes-expanding-broken (open_of naming f) around w failed r s breaks e

-- the end of the text is an error
pub wrong-at-end : (naming : Naming) (f : Frame) (around : List Open) (w w' : World) (error : Error) (r : Result) → taking w ≡ Finds-none w' → says naming f (end_item (wish_of f) ∷ []) w' ≡ Bad error w' → Failed (failure error w') ≡ r → opens.Comes (open_of naming f) around w r
wrong-at-end naming f around w w' error r none bad e = by-wish (wish_of f) (says-wish naming f w) bad
  where
    by-wish : (k : Wish) → says naming f [] w ≡ wished k → says naming f (end_item k ∷ []) w' ≡ Bad error w' → opens.Comes (open_of naming f) around w r
    by-wish wish.Plain s b = comes-end (open_of naming f) around w w' r s none (given-bad (kind_of f) (says naming f) moves.End around w' w' error r b e)
    by-wish wish.Expanded s b = comes-text-end (open_of naming f) around w w' r s none (given-bad (kind_of f) (says naming f) (moves.Given moves.TextEnd) around w' w' error r b e)

-- the reading ends there
pub done-at-end : (naming : Naming) (f : Frame) (around : List Open) (w w' : World) (r : Result) → taking w ≡ Finds-none w' → says naming f (end_item (wish_of f) ∷ []) w' ≡ Done moves.TextEnd w' → Then around (Gave moves.TextEnd w') r → opens.Comes (open_of naming f) around w r
done-at-end naming f around w w' r none done e = by-wish (wish_of f) (says-wish naming f w) done
  where
    by-wish : (k : Wish) → says naming f [] w ≡ wished k → says naming f (end_item k ∷ []) w' ≡ Done moves.TextEnd w' → opens.Comes (open_of naming f) around w r
    by-wish wish.Plain s d = comes-end (open_of naming f) around w w' r s none (given-done (kind_of f) (says naming f) moves.End around w' w' moves.TextEnd r d e)
    by-wish wish.Expanded s d = comes-text-end (open_of naming f) around w w' r s none (given-done (kind_of f) (says naming f) (moves.Given moves.TextEnd) around w' w' moves.TextEnd r d e)

-- and it is an error for a reading that waits for a balanced text
waits-for-text : (naming : Naming) (x : Waiting) (w : World) → awaits naming x (moves.Given moves.TextEnd ∷ []) w ≡ Bad NotBuilt w
waits-for-text naming waiting.Message w = refl
waits-for-text naming (waiting.Definition n) w = refl

pub then-waiting : (naming : Naming) (xs : List Waiting) (w : World) (r : Result) → length xs ≢ 0 → Failed (failure NotBuilt w) ≡ r → Then (outer_of naming xs) (Gave moves.TextEnd w) r
then-waiting naming xs w r some e = by-order (reverse xs) (λ none. some (sym (length-reverse xs) ∙ ap length none))
  where
    by-order : (ys : List Waiting) → (ys ≢ []) → Then (map (waiting_of naming) ys) (Gave moves.TextEnd w) r
    by-order [] other = absurd (other refl)
    by-order (x ∷ ys) other = given-bad moves.Control (awaits naming x) (moves.Given moves.TextEnd) (map (waiting_of naming) ys) w w NotBuilt r (waits-for-text naming x w) e

-- no reading waits
pub outer-empty : (naming : Naming) (waiting : List Waiting) → length waiting ≡ 0 → outer_of naming waiting ≡ []
outer-empty naming [] e = refl
outer-empty naming (x ∷ waiting) e =
    let none : ⊥ = omega arith in
    absurd none

-- what a reading holds stays known where the table grows
pub frame-more : (old new : Names) → Grows old new → (f : Frame) → KnowsFrame old f → KnowsFrame new f
frame-more old new grows frame.Control k = tt
frame-more old new grows frame.Message k = tt
frame-more old new grows frame.Definition k = tt
frame-more old new grows (frame.DefinitionOf n) k = tt
frame-more old new grows (frame.Balanced w text) k = record { tokens = are-known-more old new grows text.tokens.items k.tokens; groups = k.groups }

-- what the region comes to from its beginning
pub region-by : (naming : Naming) (e : Running) (map : Map) (text : List ℕ) (budget : ℕ) (r : Result) (o : Outcome) → Begins naming e map text budget → Ends naming e r → outcome_of r ≡ o → Region map text budget o (left_by map r)
region-by naming e map text budget r o begins ends is =
    let here = subst (λ w. opens.Comes (open_of naming e.frame) (outer naming e) w r) begins.world ends in
    let alone = subst (λ around. opens.Comes (open_of naming e.frame) around (started map text budget) r) begins.alone here in
    let whole = subst (λ x. opens.Comes x [] (started map text budget) r) begins.control alone in
    let run = comes-to-end moves.Control (started map text budget) r whole in
    record { result = run.0; run = run.1; is = run.2.outcome ∙ is; leaves = run.2.left map }

-- however it comes to its end, the outcome and the map that is left are those of that end
pub comes-to : (old ended new : Running) (o : RunOutcome) (r : Naming → Result) → state_of new ≡ state_of ended
    → ((naming : Naming) → KeepsApart naming → Agrees naming ended.scene.names → Agrees naming old.scene.names × Ends naming old (r naming))
    → ((naming : Naming) → outcome_of (r naming) ≡ region_outcome o)
    → ((naming : Naming) (map : Map) → left_by map (r naming) ≡ left_in o (levels naming ended.scene.equivalents) map)
    → ComesTo old o new
comes-to old ended new o r same ends is left naming apart agrees =
    let ran = ends naming apart (subst (λ s. Agrees naming s.names) same agrees) in (
      ran.0,
      λ map text budget begins.
          subst (λ s. Region map text budget (region_outcome o) (left_in o (levels naming s.equivalents) map)) (sym same)
          (subst (Region map text budget (region_outcome o)) (left naming map) (region-by naming old map text budget (r naming) (region_outcome o) begins ran.1 (is naming))),
    )

-- two facts of a result that is no error
pub both-ok : {A E : Type 0} (r : MayFail A E) (P Q R : A → Type 0) → ((a : A) → P a → Q a → R a) → IfOk r P → IfOk r Q → IfOk r R
both-ok (Ok a) P Q R both p q = both a p q
both-ok (Err e) P Q R both p q = tt

-- the line of an error is that of the text
pub line-of-text : (naming : Naming) (lists : Lists) (rest : Rest) → line_number (pieces naming lists (Text rest ∷ [])) ≡ max rest.number 1
line-of-text naming lists rest =
    behind-singles (tokens_in naming (drop lists.read lists.list.value.items)) (left_of naming (reverse lists.later.items) (Text rest ∷ []))
    ∙ behind-lists (reverse lists.later.items)
  where
    behind-singles : (tokens : List Token) (members : List Member) → line_number (map (λ t. Single t false) tokens ++ members) ≡ line_number members
    behind-singles [] members = refl
    behind-singles (t ∷ tokens) members = behind-singles tokens members

    behind-lists : (ls : List ListRead) → line_number (left_of naming ls (Text rest ∷ [])) ≡ max rest.number 1
    behind-lists [] = refl
    behind-lists (l ∷ ls) = behind-singles (tokens_in naming (drop l.read l.list.value.items)) (left_of naming ls (Text rest ∷ [])) ∙ behind-lists ls
