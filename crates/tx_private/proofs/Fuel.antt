-- More moves change nothing, so a reading ends in one way at the most.
use Rattle.std.proofs.Common.{◌≡◌, ℕ, zero, suc, ◌+◌, pos, Bool, true, false, cond, nat_lt, List, [], ◌∷◌, ◌++◌, Option, None, Some, refl, arith, zero-add, add_comm}
use Rattle.tx_private.specs.World.{World, Taking, Takes, Finds-none, Spends, Breaks, taking, failure, is_overfull}
use Rattle.tx_private.specs.Readings.{Kind, Value, Item, Tok, End, Given, Move, Take, Sub, Again, Done, Bad}
use Rattle.tx_private.specs.Errors.{numbered}
use Rattle.tx_private.specs.Moves.{move_in}
use Rattle.tx_private.specs.Reads.{Result, Gave, Failed, Spent, passing, taken, counts, checked, within_reading, follow, reads, Reads}

-- what one way of going on ends with, so does the other
abbrev Covers : (Kind → List Item → World → Option Result) → (Kind → List Item → World → Option Result) → Type 0
Covers go more = (k : Kind) (items : List Item) (w : World) (r : Result) → go k items w ≡ Some r → more k items w ≡ Some r

taken-more : (go more : Item → World → Option Result) → ((item : Item) (w : World) (r : Result) → go item w ≡ Some r → more item w ≡ Some r) → (t : Taking) (r : Result) → taken go t ≡ Some r → taken more t ≡ Some r
taken-more go more h (Takes command w) r e = h (Tok command) w r e
taken-more go more h (Finds-none w) r e = h End w r e
taken-more go more h (Spends o) r e = e
taken-more go more h (Breaks f) r e = e

passing-more : (go more : Value → World → Option Result) → ((value : Value) (w : World) (r : Result) → go value w ≡ Some r → more value w ≡ Some r) → (o p : Option Result) → ((r : Result) → o ≡ Some r → p ≡ Some r) → (r : Result) → passing go o ≡ Some r → passing more p ≡ Some r
passing-more go more h None p inner r e = cc
passing-more go more h (Some (Gave value w)) p inner r e = rw (inner (Gave value w) refl) (h value w r e)
passing-more go more h (Some (Failed f)) p inner r e = rw (inner (Failed f) refl) e
passing-more go more h (Some (Spent o)) p inner r e = rw (inner (Spent o) refl) e

checked-more : (w : World) (o p : Option Result) → ((r : Result) → o ≡ Some r → p ≡ Some r) → (r : Result) → checked w o ≡ Some r → checked w p ≡ Some r
checked-more w o p more r e = by-test (is_overfull w) more e
  where
    by-test : (t : Bool) → ((s : Result) → o ≡ Some s → p ≡ Some s) → cond t (Some (Failed (failure (numbered 57 4 (pos 0)) w))) o ≡ Some r → cond t (Some (Failed (failure (numbered 57 4 (pos 0)) w))) p ≡ Some r
    by-test true h x = x
    by-test false h x = h r x

within-more : (begin begin' : World → Option Result) (go go' : Value → World → Option Result) (weight : ℕ) (w : World) → ((v : World) (r : Result) → begin v ≡ Some r → begin' v ≡ Some r) → ((value : Value) (v : World) (r : Result) → go value v ≡ Some r → go' value v ≡ Some r) → (r : Result) → within_reading begin go weight w ≡ Some r → within_reading begin' go' weight w ≡ Some r
within-more begin begin' go go' weight w first then r e = by-test (nat_lt 500 (w.depth + weight)) e
  where
    deeper : World
    deeper = record w { depth = w.depth + weight }

    by-test : (t : Bool) → cond t (Some (Failed (failure (numbered 57 6 (pos 0)) w))) (passing (λ value v. go value (record v { depth = w.depth })) (begin deeper)) ≡ Some r → cond t (Some (Failed (failure (numbered 57 6 (pos 0)) w))) (passing (λ value v. go' value (record v { depth = w.depth })) (begin' deeper)) ≡ Some r
    by-test true x = x
    by-test false x =
        passing-more (λ value v. go value (record v { depth = w.depth })) (λ value v. go' value (record v { depth = w.depth })) (λ value v. then value (record v { depth = w.depth })) (begin deeper) (begin' deeper) (first deeper) r x

follow-more : (go more : Kind → List Item → World → Option Result) → Covers go more → (k : Kind) (items : List Item) (m : Move) (r : Result) → follow go k items m ≡ Some r → follow more k items m ≡ Some r
follow-more go more h k items (Take w) r e =
    checked-more w (taken (λ item v. go k (items ++ item ∷ []) v) (taking w)) (taken (λ item v. more k (items ++ item ∷ []) v) (taking w))
    (λ s x. taken-more (λ item v. go k (items ++ item ∷ []) v) (λ item v. more k (items ++ item ∷ []) v) (λ item v r'. h k (items ++ item ∷ []) v r') (taking w) s x) r e
follow-more go more h k items (Sub within w) r e =
    checked-more w (within_reading (go within []) (λ value v. go k (items ++ Given value ∷ []) v) (counts within) w) (within_reading (more within []) (λ value v. more k (items ++ Given value ∷ []) v) (counts within) w)
    (λ s x. within-more (go within []) (more within []) (λ value v. go k (items ++ Given value ∷ []) v) (λ value v. more k (items ++ Given value ∷ []) v) (counts within) w (h within []) (λ value v r'. h k (items ++ Given value ∷ []) v r') s x) r e
follow-more go more h k items (Again w) r e = checked-more w (go k [] w) (more k [] w) (λ s x. h k [] w s x) r e
follow-more go more h k items (Done value w) r e = e
follow-more go more h k items (Bad error w) r e = e

reads-suc : (n : ℕ) (k : Kind) (items : List Item) (w : World) (r : Result) → reads n k items w ≡ Some r → reads (suc n) k items w ≡ Some r
unfolding reads
reads-suc zero k items w r e = cc
reads-suc (suc n) k items w r e = follow-more (reads n) (reads (suc n)) (reads-suc n) k items (move_in k items w) r e

-- more moves change nothing
pub reads-more : (more n : ℕ) (k : Kind) (items : List Item) (w : World) (r : Result) → reads n k items w ≡ Some r → reads (more + n) k items w ≡ Some r
reads-more zero n k items w r e = rw zero-add e
reads-more (suc more) n k items w r e =
    let s : suc more + n ≡ suc (more + n) = omega arith in
    rw s (reads-suc (more + n) k items w r (reads-more more n k items w r e))

-- a reading ends in one way at the most
pub reads-once : (k : Kind) (items : List Item) (w : World) (r s : Result) → Reads k items w r → Reads k items w s → r ≡ s
reads-once k items w r s x y =
    let left : reads (y.moves + x.moves) k items w ≡ Some r = reads-more y.moves x.moves k items w r x.ends in
    let right : reads (x.moves + y.moves) k items w ≡ Some s = reads-more x.moves y.moves k items w s y.ends in
    let same : reads (y.moves + x.moves) k items w ≡ Some s = rw (add_comm y.moves x.moves) right in
    cc
