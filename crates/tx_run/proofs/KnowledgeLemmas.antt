-- What is known and held after a tick, by what is known and held before it.
use Rattle.std.proofs.lemmas.Bool.{false≢true, lt-ltb, ltb-true}
use Rattle.std.proofs.Common.{◌≡◌, ℕ, ◌+◌, ◌<◌, ◌==◌, Bool, true, false, nat_lt, cond, if◌then◌else◌, List, [], ◌∷◌, length, Result, Ok, Err, IfOk, Option, Some, None, arith, refl, sym, ap, subst, ◌∙◌}
use Rattle.std.specs.List.{All, AllByRecursion}
use Rattle.std.proofs.lemmas.List.Elements.{All-from_recursion}
use Rattle.tx_tok.specs.declared.tok.Tok.{Tok}
use Rattle.tx_tok.specs.declared.tok.Tok.TheVariants as tok
use Rattle.tx_tok.specs.declared.tok.ListRef.{ListRef}
use Rattle.tx_tok.specs.declared.tok.ListRef.TheVariants as list
use Rattle.tx_model.specs.declared.category.Cat.TheVariants as cat
use Rattle.tx_model.specs.Tokens.{Token, Char, Stop}
use Rattle.tx_private.specs.Texts.{token_of_byte, tokens_of}
use Rattle.tx_views.specs.Views.{View, viewed, all_viewed}
use Rattle.tx_views.specs.declared.sense.Sense.{Sense}
use Rattle.tx_views.specs.declared.sense.Sense.TheVariants as sense
use Rattle.tx_environment.specs.States.{State}
use Rattle.tx_node.specs.declared.BoxNode.{BoxNode}
use Rattle.tx_eqtb.specs.declared.meaning.Meaning.{Meaning}
use Rattle.tx_eqtb.specs.declared.meaning.Meaning.TheVariants as meaning
use Rattle.tx_environment.specs.Holding.{pooled_in, pooled_of, pooled_of_sense, counted, IsHeldIn}
use Rattle.tx_environment.specs.Steps.{held}
use Rattle.tx_input.specs.Worlds.{IsKnown, AllKnown}
use Rattle.tx_describe.specs.Rests as described
use Rattle.tx_frames.specs.declared.frame.Frame.{Frame}
use Rattle.tx_frames.specs.declared.frame.Frame.TheVariants as frame
use Rattle.tx_frames.specs.Knowledge.{Known, KnowsToken, KnowsTokens, KnowsList, KnowsSense, KnowsFrame}
use Rattle.tx_commands.specs.declared.command.Command.{Command}
use Rattle.tx_commands.specs.Knowledge.{KnowsControl, KnowsMeaning, no_lists}
use Rattle.tx_assign.specs.Values.{IsAmount}
use Rattle.std.specs.Prelude.{option_and_then}
use Rattle.tx_scene.specs.declared.scene.Scene.{Scene}
use Rattle.tx_scene.specs.Knowledge.{KnowsScene, references, falling}
use Rattle.tx_run.specs.declared.doing.Doing.{Doing}
use Rattle.tx_run.specs.declared.run.Run.{Run}
use Rattle.tx_run.specs.Readings.{start_of}
use Rattle.tx_run.specs.Knowledge.{in_hand, counts_as, held_by, holds_list, known_by, known_in, KnowsStart, KnowsDoing, KnowsOpen, KnowsBehind, KnowsRun, IsEmptyHanded, Holds}
use Rattle.tx_run.proofs.MoreLemmas.{Below, more-doing, more-control}

-- the same of tokens, as the input has it, and as descriptions have it
pub token-known : (known : Known) (t : Tok) → KnowsToken known t → IsKnown known.name t
token-known known (tok.Name n) h = h
token-known known _ h = tt

pub tokens-known : (known : Known) (ts : List Tok) → KnowsTokens known ts → AllKnown known.name ts
tokens-known known [] h = tt
tokens-known known (t ∷ ts) h = (token-known known t h.0, tokens-known known ts h.1)

pub known-token : (known : Known) (t : Tok) → IsKnown known.name t → KnowsToken known t
known-token known (tok.Name n) h = h
known-token known _ h = tt

pub known-tokens : (known : Known) (ts : List Tok) → AllKnown known.name ts → KnowsTokens known ts
known-tokens known [] h = tt
known-tokens known (t ∷ ts) h = (known-token known t h.0, known-tokens known ts h.1)

pub token-described : (known : Known) (t : Tok) → KnowsToken known t → described.KnowsToken known.name t
token-described known (tok.Name n) h = h
token-described known _ h = tt

each-described : (known : Known) (ts : List Tok) → KnowsTokens known ts → AllByRecursion (described.KnowsToken known.name) ts
each-described known [] h = tt
each-described known (t ∷ ts) h = (token-described known t h.0, each-described known ts h.1)

pub tokens-described : (known : Known) (ts : List Tok) → KnowsTokens known ts → All (described.KnowsToken known.name) ts
tokens-described known ts h = All-from_recursion (described.KnowsToken known.name) ts (each-described known ts h)

list-described : (known : Known) (l : ListRef) → KnowsList known l → described.KnowsList known.list l
list-described known list.Empty h = tt
list-described known (list.Frozen k) h = h
list-described known (list.Pooled id) h = h

pub sense-described : (known : Known) (s : Sense) → KnowsSense known s → described.KnowsSense known.list s
sense-described known (sense.Macro long protected list) h = list-described known list h
sense-described known _ h = tt

-- a list that the scene holds may be asked for, and so may the list of a meaning
pub list-held : (names : ℕ → Bool) (s : Scene) (l : ListRef) → IsHeldIn (held s.environment) (pooled_in l) → KnowsList (known_by names s) l
list-held names s list.Empty h = tt
list-held names s (list.Frozen k) h = refl
list-held names s (list.Pooled id) h = lt-ltb 0 (references id s) h

pub sense-held : (names : ℕ → Bool) (s : Scene) (m : Sense) → IsHeldIn (held s.environment) (pooled_of_sense m) → KnowsSense (known_by names s) m
sense-held names s (sense.Macro long protected list) h = list-held names s list h
sense-held names s (sense.List list) h = list-held names s list h
sense-held names s _ h = tt

-- What is known by the scene is known with what is in hand beside it.
more-lists : (names : ℕ → Bool) (s : Scene) (d : Doing) (l : ListRef) → (known_by names s).list l ≡ true → (known_in names s d).list l ≡ true
more-lists names s d list.Empty h = refl
more-lists names s d (list.Frozen k) h = refl
more-lists names s d (list.Pooled id) h = lt-ltb 0 (references id s + in_hand id d) (omega (arith, ltb-true 0 (references id s) h))

pub below-in : (names : ℕ → Bool) (s : Scene) (d : Doing) → Below (known_by names s) (known_in names s d)
below-in names s d = record { names = λ n h. h; lists = more-lists names s d }

-- and the other way, where nothing is in hand
fewer-lists : (names : ℕ → Bool) (s : Scene) (d : Doing) → ((id : ℕ) → in_hand id d ≡ 0) → (l : ListRef) → (known_in names s d).list l ≡ true → (known_by names s).list l ≡ true
fewer-lists names s d none list.Empty h = refl
fewer-lists names s d none (list.Frozen k) h = refl
fewer-lists names s d none (list.Pooled id) h = lt-ltb 0 (references id s) (omega (arith, none id, ltb-true 0 (references id s + in_hand id d) h))

pub below-out : (names : ℕ → Bool) (s : Scene) (d : Doing) → ((id : ℕ) → in_hand id d ≡ 0) → Below (known_in names s d) (known_by names s)
below-out names s d none = record { names = λ n h. h; lists = fewer-lists names s d none }

-- only the environment counts
pub known-same : (names : ℕ → Bool) (old new : Scene) → new.environment ≡ old.environment → known_by names new ≡ known_by names old
known-same names old new e = ap (λ (x : State). record { name = names; list = holds_list (λ id. counted id (held x)) }) e

pub references-same : (old new : Scene) → new.environment ≡ old.environment → (id : ℕ) → references id new ≡ references id old
references-same old new e id = ap (λ (x : State). counted id (held x)) e

-- The run goes on, in the same environment: what is about to be done, and what goes on behind it, was known.
pub known-on : (names : ℕ → Bool) (old : Scene) (new : Run) → new.scene.environment ≡ old.environment → KnowsScene names new.scene → KnowsDoing (known_by names old) new.doing → KnowsBehind (known_by names old) new.doing new.frames new.command → KnowsRun names new
known-on names old new e scene doing behind =
    let same = sym (known-same names old new.scene e) in
    record {
      scene = scene;
      doing = more-doing (known_by names new.scene) (known_in names new.scene new.doing) (below-in names new.scene new.doing) new.doing (subst (λ k. KnowsDoing k new.doing) same doing);
      behind = subst (λ k. KnowsBehind k new.doing new.frames new.command) same behind;
    }

-- what is open was known in the environment before, which is the same
pub open-same : (names : ℕ → Bool) (old new : Scene) (fs : List Frame) (c : Command) → new.environment ≡ old.environment → KnowsOpen (known_by names old) fs c → KnowsOpen (known_by names new) fs c
open-same names old new fs c e = subst (λ k. KnowsOpen k fs c) (sym (known-same names old new e))

-- a reading that is known began with what is known
pub start-known : (known : Known) (f : Frame) → KnowsFrame known f → KnowsStart known (start_of f)
start-known known frame.LeftBrace h = tt
start-known known frame.Equals h = tt
start-known known (frame.Scan r s) h = h.0
start-known known (frame.Quantity t a) h = (h, tt)
start-known known (frame.Text x) h = tt
start-known known (frame.List s) h = tt
start-known known (frame.Expansion text s) h = tt

-- the innermost reading is known, and so are those around it
pub first-known : (known : Known) (fs : List Frame) (f : Frame) (rest : List Frame) → fs ≡ f ∷ rest → AllByRecursion (KnowsFrame known) fs → KnowsFrame known f × AllByRecursion (KnowsFrame known) rest
first-known known fs f rest e h = subst (AllByRecursion (KnowsFrame known)) e h

-- nothing is open
pub none-known : (known : Known) (fs : List Frame) (c : Command) → fs ≡ [] → KnowsControl known c → KnowsOpen known fs c
none-known known fs c e h = record { readings = subst (λ (xs : List Frame). AllByRecursion (KnowsFrame known) xs) (sym e) tt; control = h }

-- The run goes on where it is: only what it is about to do is another thing.
pub in-place : (names : ℕ → Bool) (run : Run) (d e : Doing) (moves : ℕ) → run.doing ≡ d → KnowsRun names run → (KnowsDoing (known_in names run.scene d) d → KnowsDoing (known_in names run.scene e) e) → (KnowsBehind (known_by names run.scene) d run.frames run.command → KnowsBehind (known_by names run.scene) e run.frames run.command) → KnowsRun names (record run { doing = e; moves = moves })
in-place names run d e moves same knows doing behind = record {
  scene = knows.scene;
  doing = doing (subst (λ x. KnowsDoing (known_in names run.scene x) x) same knows.doing);
  behind = behind (subst (λ x. KnowsBehind (known_by names run.scene) x run.frames run.command) same knows.behind);
}

-- a command without lists is known where other lists are held, too
pub listless : (known more : Known) (c : Command) → known.name ≡ more.name → KnowsControl (no_lists known) c → KnowsControl more c
listless known more c e =
    more-control (no_lists known) more (record { names = λ n h. subst (λ (f : ℕ → Bool). f n ≡ true) e h; lists = λ l h. absurd (none h) }) c
  where
    none : false ≡ true → ⊥
    none h = false≢true h

-- no reference is made or lost where the environment is the same
pub holds-kept : (old new : Run) → new.scene.environment ≡ old.scene.environment → new.fallen ≡ old.fallen → ((id : ℕ) → in_hand id new.doing ≡ 0) → Holds old new
holds-kept old new e fallen none empty id =
    let falls : counts_as id new.fallen ≡ 0 = ap (counts_as id) (fallen ∙ empty.fallen) in
    omega (arith, references-same old.scene new.scene e id, none id, falls)

pub holds-same : (old new : Run) → new.scene.environment ≡ old.scene.environment → new.fallen ≡ old.fallen → new.doing ≡ old.doing → Holds old new
holds-same old new e fallen same empty id =
    let falls : counts_as id new.fallen ≡ 0 = ap (counts_as id) (fallen ∙ empty.fallen) in
    let hand : in_hand id new.doing ≡ 0 = ap (in_hand id) same ∙ empty.doing id in
    omega (arith, references-same old.scene new.scene e id, hand, falls)

-- and where a call goes on from a run that holds the same
pub holds-then : (old mid new : Run) → ((id : ℕ) → references id mid.scene ≡ references id old.scene) → mid.fallen ≡ old.fallen → mid.doing ≡ old.doing → Holds mid new → Holds old new
holds-then old mid new same fallen doing holds empty id =
    let empty_there : IsEmptyHanded mid = record { fallen = fallen ∙ empty.fallen; doing = λ k. ap (in_hand k) doing ∙ empty.doing k } in
    omega (arith, holds empty_there id, same id)

-- what falls away with a meaning that is handed out
pub falls-as : (id : ℕ) (out : Option (Meaning BoxNode)) (number : Option ℕ) → number ≡ option_and_then pooled_of out → counts_as id number ≡ falling id out
falls-as id None number e = ap (counts_as id) e
falls-as id (Some m) number e =
    let one : counts_as id number ≡ counts_as id (pooled_of m) = ap (counts_as id) e in
    omega (arith, one)

-- an amount has no list
pub amount-known : (known : Known) (m : Meaning BoxNode) → IsAmount m → KnowsMeaning known m
amount-known known (meaning.Macro long protected l) a = absurd a
amount-known known (meaning.List l) a = absurd a
amount-known known _ a = tt

-- A text has no names: so it is for one view of the numbers, and so for the tokens themselves.
some_view : View
some_view = record { naming = λ n. []; number = λ text. 0; content = λ reference. [] }

is_character : Token → Bool
is_character (Char c b) = true
is_character _ = false

either-character : (space : Bool) (b : ℕ) → is_character (if space then Char cat.Space 32 else Char cat.Other b) ≡ true
unfolding is_character
either-character true b = refl
either-character false b = refl

character-known : (known : Known) (t : Tok) (b : ℕ) → viewed some_view t ≡ token_of_byte b → KnowsToken known t
unfolding is_character some_view
character-known known (tok.Name n) b e = absurd (false≢true (ap is_character e ∙ either-character (b == 32) b))
character-known known _ b e = tt

first_of : List Token → Token
first_of [] = Stop
first_of (t ∷ ts) = t

rest_of : List Token → List Token
rest_of [] = []
rest_of (t ∷ ts) = ts

text-known : (known : Known) (copy : List Tok) (text : List ℕ) → all_viewed some_view copy ≡ tokens_of text → KnowsTokens known copy
unfolding first_of rest_of
text-known known [] text e = tt
text-known known (t ∷ ts) [] e = absurd (omega (arith, ap length e))
text-known known (t ∷ ts) (b ∷ text) e = (character-known known t b (ap first_of e), text-known known ts text (ap rest_of e))

pub ok-known : {E : Type 0} (known : Known) (r : Result (List Tok) E) (text : List ℕ) → IfOk r (λ copy. (view : View) → all_viewed view copy ≡ tokens_of text) → IfOk r (λ copy. KnowsTokens known copy)
ok-known known (Ok copy) text is = text-known known copy text (is some_view)
ok-known known (Err e) text is = tt
