-- One lemma a kind of move: from how a reading ends after the move, how it ends before.
use Rattle.std.proofs.Common.{◌≡◌, ℕ, zero, suc, ◌+◌, List, [], ◌∷◌, ◌++◌, Some, refl, add_comm}
use Rattle.tx_model.specs.World.{World, Output, Failure, failure, Command, Takes, Finds-none, Spends, Breaks, taking}
use Rattle.tx_model.specs.declared.error.Error.{Error}
use Rattle.tx_model.specs.Moves.{Kind, Value, Item, Tok, End, Given, Move, Take, Sub, Again, Done, Bad, move_in}
use Rattle.tx_model.specs.Reads.{Result, Gave, Failed, Spent, follow, reads, Reads}
use Rattle.tx_model.proofs.Fuel.{reads-more}

-- what follows its move is how the reading ends
following : (n : ℕ) (k : Kind) (items : List Item) (w : World) (m : Move) (r : Result) → move_in k items w ≡ m → follow (reads n) k items w m ≡ Some r → Reads k items w r
unfolding reads
following n k items w m r e f = record { moves = suc n; ends = rw e f }

pub reads-done : (k : Kind) (items : List Item) (w : World) (value : Value) (w' : World) → move_in k items w ≡ Done value w' → Reads k items w (Gave value w')
reads-done k items w value w' e = following zero k items w (Done value w') (Gave value w') e refl

pub reads-bad : (k : Kind) (items : List Item) (w : World) (error : Error) (w' : World) → move_in k items w ≡ Bad error w' → Reads k items w (Failed (failure error w'))
reads-bad k items w error w' e = following zero k items w (Bad error w') (Failed (failure error w')) e refl

pub reads-again : (k : Kind) (items : List Item) (w w' : World) (r : Result) → move_in k items w ≡ Again w' → Reads k [] w' r → Reads k items w r
reads-again k items w w' r e after = following after.moves k items w (Again w') r e after.ends

pub reads-takes : (k : Kind) (items : List Item) (w : World) (command : Command) (w' : World) (r : Result) → move_in k items w ≡ Take → taking w ≡ Takes command w' → Reads k (items ++ Tok command ∷ []) w' r → Reads k items w r
reads-takes k items w command w' r e t after =
    following after.moves k items w Take r e (rw t after.ends)

pub reads-end : (k : Kind) (items : List Item) (w w' : World) (r : Result) → move_in k items w ≡ Take → taking w ≡ Finds-none w' → Reads k (items ++ End ∷ []) w' r → Reads k items w r
reads-end k items w w' r e t after = following after.moves k items w Take r e (rw t after.ends)

pub reads-spends : (k : Kind) (items : List Item) (w : World) (o : Output) → move_in k items w ≡ Take → taking w ≡ Spends o → Reads k items w (Spent o)
reads-spends k items w o e t = following zero k items w Take (Spent o) e (rw t refl)

pub reads-breaks : (k : Kind) (items : List Item) (w : World) (f : Failure) → move_in k items w ≡ Take → taking w ≡ Breaks f → Reads k items w (Failed f)
reads-breaks k items w f e t = following zero k items w Take (Failed f) e (rw t refl)

pub reads-gave : (k within : Kind) (items : List Item) (w : World) (value : Value) (w' : World) (r : Result) → move_in k items w ≡ Sub within → Reads within [] w (Gave value w') → Reads k (items ++ Given value ∷ []) w' r → Reads k items w r
reads-gave k within items w value w' r e inner after =
    let both = inner.moves + after.moves in
    let first : reads both within [] w ≡ Some (Gave value w') = rw (add_comm inner.moves after.moves) (reads-more after.moves inner.moves within [] w (Gave value w') inner.ends) in
    let then : reads both k (items ++ Given value ∷ []) w' ≡ Some r = reads-more inner.moves after.moves k (items ++ Given value ∷ []) w' r after.ends in
    following both k items w (Sub within) r e (rw first then)

pub reads-failed : (k within : Kind) (items : List Item) (w : World) (f : Failure) → move_in k items w ≡ Sub within → Reads within [] w (Failed f) → Reads k items w (Failed f)
reads-failed k within items w f e inner = following inner.moves k items w (Sub within) (Failed f) e (rw inner.ends refl)

pub reads-spent : (k within : Kind) (items : List Item) (w : World) (o : Output) → move_in k items w ≡ Sub within → Reads within [] w (Spent o) → Reads k items w (Spent o)
reads-spent k within items w o e inner = following inner.moves k items w (Sub within) (Spent o) e (rw inner.ends refl)
