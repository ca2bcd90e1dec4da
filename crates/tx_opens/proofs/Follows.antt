-- One lemma a kind of move: from how a reading ends after the move, how it ends before.
use Rattle.std.proofs.Common.{◌≡◌, ℕ, zero, suc, ◌+◌, pos, Bool, true, false, cond, nat_lt, List, [], ◌∷◌, ◌++◌, Option, Some, refl, sym, ◌∙◌, ap, add_comm}
use Rattle.tx_private.specs.World.{World, Output, Failure, failure, Command, Takes, Finds-none, Spends, Breaks, taking, is_overfull}
use Rattle.tx_private.specs.Errors.{Error, numbered}
use Rattle.tx_private.specs.Readings.{Kind, Value, Item, Tok, End, Given, Move, Take, Sub, Again, Done, Bad}
use Rattle.tx_private.specs.Moves.{move_in}
use Rattle.tx_private.specs.Reads.{Result, Gave, Failed, Spent, follow, checked, passing, within_reading, counts, reads, Reads}
use Rattle.tx_opens.specs.Opens.{Follows}
use Rattle.tx_private.proofs.Fuel.{reads-more}

-- what follows its move is how the reading ends
pub followed : (k : Kind) (items : List Item) (w : World) (m : Move) (r : Result) → move_in k items w ≡ m → Follows k items m r → Reads k items w r
unfolding reads
followed k items w m r e f = record { moves = suc f.moves; ends = rw e f.ends }

-- no more tokens are pending than may be
fits : (w : World) (o : Option Result) (r : Result) → is_overfull w ≡ false → o ≡ Some r → checked w o ≡ Some r
fits w o r room e = ap (λ t. cond t (Some (Failed (failure (numbered 57 4 (pos 0)) w))) o) room ∙ e

-- what is begun within may be
shallow : (begin : World → Option Result) (go : Value → World → Option Result) (weight : ℕ) (w : World) (r : Result) → nat_lt 500 (w.depth + weight) ≡ false → passing (λ value v. go value (record v { depth = w.depth })) (begin (record w { depth = w.depth + weight })) ≡ Some r → within_reading begin go weight w ≡ Some r
shallow begin go weight w r room e =
    ap (λ t. cond t (Some (Failed (failure (numbered 57 6 (pos 0)) w))) (passing (λ value v. go value (record v { depth = w.depth })) (begin (record w { depth = w.depth + weight })))) room ∙ e

pub follows-done : (k : Kind) (items : List Item) (value : Value) (w : World) → is_overfull w ≡ false → Follows k items (Done value w) (Gave value w)
follows-done k items value w room = record { moves = zero; ends = fits w (Some (Gave value w)) (Gave value w) room refl }

pub follows-bad : (k : Kind) (items : List Item) (error : Error) (w : World) → Follows k items (Bad error w) (Failed (failure error w))
follows-bad k items error w = record { moves = zero; ends = refl }

pub follows-again : (k : Kind) (items : List Item) (w : World) (r : Result) → is_overfull w ≡ false → Reads k [] w r → Follows k items (Again w) r
follows-again k items w r room after = record { moves = after.moves; ends = fits w (reads after.moves k [] w) r room after.ends }

pub follows-takes : (k : Kind) (items : List Item) (w : World) (command : Command) (u : World) (r : Result) → is_overfull w ≡ false → taking w ≡ Takes command u → Reads k (items ++ Tok command ∷ []) u r → Follows k items (Take w) r
follows-takes k items w command u r room t after = record { moves = after.moves; ends = fits w _ r room (rw t after.ends) }

pub follows-end : (k : Kind) (items : List Item) (w u : World) (r : Result) → is_overfull w ≡ false → taking w ≡ Finds-none u → Reads k (items ++ End ∷ []) u r → Follows k items (Take w) r
follows-end k items w u r room t after = record { moves = after.moves; ends = fits w _ r room (rw t after.ends) }

pub follows-spends : (k : Kind) (items : List Item) (w : World) (o : Output) → is_overfull w ≡ false → taking w ≡ Spends o → Follows k items (Take w) (Spent o)
follows-spends k items w o room t = record { moves = zero; ends = fits w _ (Spent o) room (rw t refl) }

pub follows-breaks : (k : Kind) (items : List Item) (w : World) (f : Failure) → is_overfull w ≡ false → taking w ≡ Breaks f → Follows k items (Take w) (Failed f)
follows-breaks k items w f room t = record { moves = zero; ends = fits w _ (Failed f) room (rw t refl) }

-- the world in which a reading within this one begins
abbrev pub deeper : Kind → World → World
deeper within w = record w { depth = w.depth + counts within }

pub follows-gave : (k within : Kind) (items : List Item) (w : World) (value : Value) (u : World) (r : Result) → is_overfull w ≡ false → nat_lt 500 (w.depth + counts within) ≡ false → Reads within [] (deeper within w) (Gave value u) → Reads k (items ++ Given value ∷ []) (record u { depth = w.depth }) r → Follows k items (Sub within w) r
follows-gave k within items w value u r room deep inner after =
    let both = inner.moves + after.moves in
    let first : reads both within [] (deeper within w) ≡ Some (Gave value u) = rw (add_comm inner.moves after.moves) (reads-more after.moves inner.moves within [] (deeper within w) (Gave value u) inner.ends) in
    let then : reads both k (items ++ Given value ∷ []) (record u { depth = w.depth }) ≡ Some r = reads-more inner.moves after.moves k (items ++ Given value ∷ []) (record u { depth = w.depth }) r after.ends in
    record { moves = both; ends = fits w _ r room (shallow (reads both within []) (λ x y. reads both k (items ++ Given x ∷ []) y) (counts within) w r deep (rw first then)) }

pub follows-failed : (k within : Kind) (items : List Item) (w : World) (f : Failure) → is_overfull w ≡ false → nat_lt 500 (w.depth + counts within) ≡ false → Reads within [] (deeper within w) (Failed f) → Follows k items (Sub within w) (Failed f)
follows-failed k within items w f room deep inner =
    record { moves = inner.moves; ends = fits w _ (Failed f) room (shallow (reads inner.moves within []) (λ x y. reads inner.moves k (items ++ Given x ∷ []) y) (counts within) w (Failed f) deep (rw inner.ends refl)) }

pub follows-spent : (k within : Kind) (items : List Item) (w : World) (o : Output) → is_overfull w ≡ false → nat_lt 500 (w.depth + counts within) ≡ false → Reads within [] (deeper within w) (Spent o) → Follows k items (Sub within w) (Spent o)
follows-spent k within items w o room deep inner =
    record { moves = inner.moves; ends = fits w _ (Spent o) room (shallow (reads inner.moves within []) (λ x y. reads inner.moves k (items ++ Given x ∷ []) y) (counts within) w (Spent o) deep (rw inner.ends refl)) }

-- the world of a move that is no error
abbrev pub world_of : Move → World
world_of (Take w) = w
world_of (Sub k w) = w
world_of (Again w) = w
world_of (Done value w) = w
world_of (Bad error w) = w

abbrev pub IsNoError : Move → Type 0
IsNoError (Bad error w) = ⊥
IsNoError _ = Unit {0}

full : (w : World) (o : Option Result) → is_overfull w ≡ true → checked w o ≡ Some (Failed (failure (numbered 57 4 (pos 0)) w))
full w o e = ap (λ t. cond t (Some (Failed (failure (numbered 57 4 (pos 0)) w))) o) e

-- more tokens are pending than may be
pub follows-overfull : (k : Kind) (items : List Item) (m : Move) → IsNoError m → is_overfull (world_of m) ≡ true → Follows k items m (Failed (failure (numbered 57 4 (pos 0)) (world_of m)))
follows-overfull k items (Take v) ok over = record { moves = zero; ends = full v _ over }
follows-overfull k items (Sub kind v) ok over = record { moves = zero; ends = full v _ over }
follows-overfull k items (Again v) ok over = record { moves = zero; ends = full v _ over }
follows-overfull k items (Done value v) ok over = record { moves = zero; ends = full v _ over }
follows-overfull k items (Bad error v) ok over = absurd ok

-- the reading within is one too many
pub follows-too-deep : (k within : Kind) (items : List Item) (w : World) → is_overfull w ≡ false → nat_lt 500 (w.depth + counts within) ≡ true → Follows k items (Sub within w) (Failed (failure (numbered 57 6 (pos 0)) w))
follows-too-deep k within items w room deep =
    record { moves = zero; ends = fits w _ _ room (ap (λ t. cond t (Some (Failed (failure (numbered 57 6 (pos 0)) w))) (passing (λ value x. reads zero k (items ++ Given value ∷ []) (record x { depth = w.depth })) (reads zero within [] (record w { depth = w.depth + counts within })))) deep) }
