-- One lemma for each move of the innermost open reading.
use Rattle.std.proofs.Common.{◌≡◌, ℕ, zero, suc, ◌+◌, pos, Bool, true, false, cond, nat_lt, List, [], ◌∷◌, ◌++◌, Option, None, Some, refl, sym, ◌∙◌, ap, subst, add_comm}
use Rattle.std.proofs.lemmas.List.{append_assoc}
use Rattle.tx_private.specs.World.{World, Output, Failure, failure, Command, Takes, Finds-none, Spends, Breaks, taking, is_overfull}
use Rattle.tx_private.specs.Errors.{Error, numbered}
use Rattle.tx_private.specs.Readings.{Kind, Value, Item, Tok, End, Given, Move, Take, Sub, Again, Done, Bad}
use Rattle.tx_private.specs.Moves.{move_in}
use Rattle.tx_private.specs.Reads.{Result, Gave, Failed, Spent, counts, follow, reads, Reads}
use Rattle.tx_private.specs.Region.{State, outcome_of, left_by}
use Rattle.tx_opens.specs.Opens.{Open, begun, given, Stands, depth_of, Follows, TellsSame, Then, Comes, ComesGiven, SaysSame}
use Rattle.tx_opens.proofs.Follows.{followed, follows-done, follows-bad, follows-again, follows-takes, follows-end, follows-spends, follows-breaks, follows-gave, follows-failed, follows-spent, follows-overfull, follows-too-deep, world_of, IsNoError, deeper}

-- what results that are the same tell
pub same-tell : (s r : Result) → s ≡ r → TellsSame s r
same-tell s r e = record { outcome = ap outcome_of e; left = λ state. ap (left_by state) e }

-- a reading that was given one item more
pub longer : (o : Open) (item : Item) (items : List Item) → Stands o items → Stands (given o item) (items ++ item ∷ [])
longer o item items stands next later w =
    ap (λ xs. move_in o.kind xs w) (append_assoc items (item ∷ []) (next ∷ later)) ∙ stands item (next ∷ later) w

-- what such a reading ends with, by its move
onward : (o : Open) (item : Item) (items : List Item) (w : World) (s : Result) → Stands o items → Follows o.kind (items ++ item ∷ []) (o.says item [] w) s → Reads o.kind (items ++ item ∷ []) w s
onward o item items w s stands f = followed o.kind (items ++ item ∷ []) w (o.says item [] w) s (stands item [] w) f

-- a failure, or the want of a step, within a reading is that of those around it
pub then-failed : (outer : List Open) (f : Failure) (r : Result) → Failed f ≡ r → Then outer (Failed f) r
then-failed [] f r e = same-tell (Failed f) r e
then-failed (o ∷ outer) f r e = e

pub then-spent : (outer : List Open) (output : Output) (r : Result) → Spent output ≡ r → Then outer (Spent output) r
then-spent [] output r e = same-tell (Spent output) r e
then-spent (o ∷ outer) output r e = e

-- a token is taken
pub comes-token : (o : Open) (outer : List Open) (w u : World) (c : Command) (r : Result) → is_overfull w ≡ false → taking w ≡ Takes c u → ComesGiven o (Tok c) outer u r → Comes o outer (Take w) r
comes-token o outer w u c r room takes after items stands =
    let rest = after (items ++ Tok c ∷ []) (longer o (Tok c) items stands) in
    (rest.0, follows-takes o.kind items w c u rest.0 room takes (onward o (Tok c) items u rest.0 stands rest.1), rest.2)

-- nothing is pending
pub comes-end : (o : Open) (outer : List Open) (w u : World) (r : Result) → is_overfull w ≡ false → taking w ≡ Finds-none u → ComesGiven o End outer u r → Comes o outer (Take w) r
comes-end o outer w u r room none after items stands =
    let rest = after (items ++ End ∷ []) (longer o End items stands) in
    (rest.0, follows-end o.kind items w u rest.0 room none (onward o End items u rest.0 stands rest.1), rest.2)

-- no step is left
pub comes-spent : (o : Open) (outer : List Open) (w : World) (output : Output) (r : Result) → is_overfull w ≡ false → taking w ≡ Spends output → Spent output ≡ r → Comes o outer (Take w) r
comes-spent o outer w output r room spends e items stands =
    (Spent output, follows-spends o.kind items w output room spends, then-spent outer output r e)

-- no token can be made of what is there
pub comes-broken : (o : Open) (outer : List Open) (w : World) (f : Failure) (r : Result) → is_overfull w ≡ false → taking w ≡ Breaks f → Failed f ≡ r → Comes o outer (Take w) r
comes-broken o outer w f r room breaks e items stands =
    (Failed f, follows-breaks o.kind items w f room breaks, then-failed outer f r e)

-- a reading begins within
pub comes-within : (o : Open) (k : Kind) (outer : List Open) (w : World) (r : Result) → is_overfull w ≡ false → nat_lt 500 (w.depth + counts k) ≡ false → w.depth ≡ depth_of (o ∷ outer) → Comes (begun k) (o ∷ outer) (move_in k [] (deeper k w)) r → Comes o outer (Sub k w) r
comes-within o k outer w r room shallow depth after items stands =
    by-inner inner.0 (followed k [] (deeper k w) (move_in k [] (deeper k w)) inner.0 refl inner.1) inner.2
  where
    inner : (s : Result) × Follows k [] (move_in k [] (deeper k w)) s × Then (o ∷ outer) s r
    inner = after [] (λ item later v. refl)

    by-inner : (s : Result) → Reads k [] (deeper k w) s → Then (o ∷ outer) s r → (t : Result) × Follows o.kind items (Sub k w) t × Then outer t r
    by-inner (Gave value u) reading then =
        let rest = then (items ++ Given value ∷ []) (longer o (Given value) items stands) in
        let back = subst (λ d. Reads o.kind (items ++ Given value ∷ []) (record u { depth = d }) rest.0) (sym depth) (onward o (Given value) items (record u { depth = depth_of (o ∷ outer) }) rest.0 stands rest.1) in
        (rest.0, follows-gave o.kind k items w value u rest.0 room shallow reading back, rest.2)
    by-inner (Failed f) reading then =
        (Failed f, follows-failed o.kind k items w f room shallow reading, then-failed outer f r then)
    by-inner (Spent output) reading then =
        (Spent output, follows-spent o.kind k items w output room shallow reading, then-spent outer output r then)

-- it is one too many
pub comes-too-deep : (o : Open) (k : Kind) (outer : List Open) (w : World) (r : Result) → is_overfull w ≡ false → nat_lt 500 (w.depth + counts k) ≡ true → Failed (failure (numbered 57 6 (pos 0)) w) ≡ r → Comes o outer (Sub k w) r
comes-too-deep o k outer w r room deep e items stands =
    (Failed (failure (numbered 57 6 (pos 0)) w), follows-too-deep o.kind k items w room deep, then-failed outer (failure (numbered 57 6 (pos 0)) w) r e)

-- more tokens are pending than may be
pub comes-overfull : (o : Open) (outer : List Open) (m : Move) (r : Result) → IsNoError m → is_overfull (world_of m) ≡ true → Failed (failure (numbered 57 4 (pos 0)) (world_of m)) ≡ r → Comes o outer m r
comes-overfull o outer m r ok over e items stands =
    (Failed (failure (numbered 57 4 (pos 0)) (world_of m)), follows-overfull o.kind items m ok over, then-failed outer (failure (numbered 57 4 (pos 0)) (world_of m)) r e)

-- it begins again in another world
pub comes-again : (o : Open) (outer : List Open) (w : World) (r : Result) → is_overfull w ≡ false → Comes (begun o.kind) outer (move_in o.kind [] w) r → Comes o outer (Again w) r
comes-again o outer w r room after items stands =
    let rest = after [] (λ item later x. refl) in
    (rest.0, follows-again o.kind items w rest.0 room (followed o.kind [] w (move_in o.kind [] w) rest.0 refl rest.1), rest.2)

-- it ends with a value
pub comes-done : (o : Open) (outer : List Open) (w : World) (value : Value) (r : Result) → is_overfull w ≡ false → Then outer (Gave value w) r → Comes o outer (Done value w) r
comes-done o outer w value r room after items stands = (Gave value w, follows-done o.kind items value w room, after)

-- it is an error
pub comes-bad : (o : Open) (outer : List Open) (w : World) (error : Error) (r : Result) → Failed (failure error w) ≡ r → Comes o outer (Bad error w) r
comes-bad o outer w error r e items stands =
    (Failed (failure error w), follows-bad o.kind items error w, then-failed outer (failure error w) r e)

-- a reading that waits is given a value
pub then-given : (o : Open) (outer : List Open) (value : Value) (w : World) (r : Result) → ComesGiven o (Given value) outer (record w { depth = depth_of (o ∷ outer) }) r → Then (o ∷ outer) (Gave value w) r
then-given o outer value w r after = after

-- readings that say the same come to the same
pub comes-same : (o p : Open) (outer : List Open) (m : Move) (r : Result) → SaysSame o p → Comes p outer m r → Comes o outer m r
comes-same o p outer m r same after items stands =
    let rest = after items (λ item later w. subst (λ k. move_in k (items ++ item ∷ later) w ≡ p.says item later w) same.kind (stands item later w ∙ same.says item later w)) in
    (rest.0, subst (λ k. Follows k items m rest.0) (sym same.kind) rest.1, rest.2)

-- the whole: what a reading comes to from its start
pub comes-to-end : (k : Kind) (w : World) (r : Result) → Comes (begun k) [] (move_in k [] w) r → (s : Result) × Reads k [] w s × TellsSame s r
comes-to-end k w r comes =
    let whole = comes [] (λ item later v. refl) in
    (whole.0, followed k [] w (move_in k [] w) whole.0 refl whole.1, whole.2)
