-- One lemma for each thing that can come of the innermost open reading.
use Rattle.std.proofs.Common.{◌≡◌, ℕ, zero, suc, List, [], ◌∷◌, ◌++◌, Option, None, Some, refl, sym, ◌∙◌, ap, subst}
use Rattle.std.proofs.lemmas.List.{append_assoc, append-nil}
use Rattle.tx_model.specs.World.{World, Output, Failure, failure, Command, Takes, Finds-none, Spends, Breaks, taking}
use Rattle.tx_model.specs.declared.error.Error.{Error}
use Rattle.tx_model.specs.Moves.{Kind, Expanded, Value, TextEnd, Unexpandable, Item, Tok, End, Given, Move, Take, Sub, Again, Done, Bad, move_in, expansion}
use Rattle.tx_model.specs.Reads.{Result, Gave, Failed, Spent, passing, reads, follow, Reads}
use Rattle.tx_model.specs.Region.{outcome_of, left_by}
use Rattle.tx_model.specs.Opens.{Open, begun, Stands, TellsSame, Then, Comes, ComesGiven, GoesOn}
use Rattle.tx_model.proofs.Steps.{reads-done, reads-bad, reads-again, reads-takes, reads-end, reads-spends, reads-breaks, reads-gave, reads-failed, reads-spent}

-- what results that are the same tell
pub same-tell : (s r : Result) → s ≡ r → TellsSame s r
same-tell s r e = record { outcome = ap outcome_of e; left = λ map. ap (left_by map) e }

-- of a value nothing is told
pub gave-tell : (v value : Value) (w : World) (r : Result) → Gave v w ≡ r → TellsSame (Gave value w) r
gave-tell v value w r e = record { outcome = ap outcome_of e; left = λ map. ap (left_by map) e }

-- a reading that was given one item more
longer : (k : Kind) (old new : List Item → World → Move) (item : Item) (items : List Item) → GoesOn old item new → Stands (record { kind = k; says = old }) items → Stands (record { kind = k; says = new }) (items ++ item ∷ [])
longer k old new item items on stands later w =
    ap (λ xs. move_in k xs w) (append_assoc items (item ∷ []) later) ∙ stands (item ∷ later) w ∙ on later w

-- what it does now
here : (o : Open) (items : List Item) (w : World) (m : Move) → Stands o items → o.says [] w ≡ m → move_in o.kind items w ≡ m
here o items w m stands says = ap (λ xs. move_in o.kind xs w) (sym (append-nil items)) ∙ stands [] w ∙ says

-- a failure, or the want of a step, within a reading is that of those around it
then-failed : (outer : List Open) (f : Failure) (r : Result) → Failed f ≡ r → Then outer (Failed f) r
then-failed [] f r e = same-tell (Failed f) r e
then-failed (o ∷ outer) f r e = e

then-spent : (outer : List Open) (output : Output) (r : Result) → Spent output ≡ r → Then outer (Spent output) r
then-spent [] output r e = same-tell (Spent output) r e
then-spent (o ∷ outer) output r e = e

-- a token is taken as it stands
pub comes-token : (o : Open) (outer : List Open) (w w' : World) (c : Command) (r : Result) → o.says [] w ≡ Take → taking w ≡ Takes c w' → ComesGiven o (Tok c) outer w' r → Comes o outer w r
comes-token o outer w w' c r wish takes after items stands =
    let rest = after items stands in
    (rest.0, reads-takes o.kind items w c w' rest.0 (here o items w Take stands wish) takes rest.1, rest.2)

-- nothing is pending where a token is wished for
pub comes-end : (o : Open) (outer : List Open) (w w' : World) (r : Result) → o.says [] w ≡ Take → taking w ≡ Finds-none w' → ComesGiven o End outer w' r → Comes o outer w r
comes-end o outer w w' r wish none after items stands =
    let rest = after items stands in
    (rest.0, reads-end o.kind items w w' rest.0 (here o items w Take stands wish) none rest.1, rest.2)

-- no step is left for it
pub comes-spent : (o : Open) (outer : List Open) (w : World) (output : Output) (r : Result) → o.says [] w ≡ Take → taking w ≡ Spends output → Spent output ≡ r → Comes o outer w r
comes-spent o outer w output r wish spends e items stands =
    (Spent output, reads-spends o.kind items w output (here o items w Take stands wish) spends, then-spent outer output r e)

-- no token can be made of what is there
pub comes-broken : (o : Open) (outer : List Open) (w : World) (f : Failure) (r : Result) → o.says [] w ≡ Take → taking w ≡ Breaks f → Failed f ≡ r → Comes o outer w r
comes-broken o outer w f r wish breaks e items stands =
    (Failed f, reads-breaks o.kind items w f (here o items w Take stands wish) breaks, then-failed outer f r e)

-- the reading within gives a value
within-gives : (o : Open) (within : Kind) (outer : List Open) (w w' : World) (value : Value) (r : Result) → o.says [] w ≡ Sub within → Reads within [] w (Gave value w') → ComesGiven o (Given value) outer w' r → Comes o outer w r
within-gives o within outer w w' value r wish inner after items stands =
    let rest = after items stands in
    (rest.0, reads-gave o.kind within items w value w' rest.0 (here o items w (Sub within) stands wish) inner rest.1, rest.2)

within-fails : (o : Open) (within : Kind) (outer : List Open) (w : World) (f : Failure) (r : Result) → o.says [] w ≡ Sub within → Reads within [] w (Failed f) → Failed f ≡ r → Comes o outer w r
within-fails o within outer w f r wish inner e items stands =
    (Failed f, reads-failed o.kind within items w f (here o items w (Sub within) stands wish) inner, then-failed outer f r e)

within-spends : (o : Open) (within : Kind) (outer : List Open) (w : World) (output : Output) (r : Result) → o.says [] w ≡ Sub within → Reads within [] w (Spent output) → Spent output ≡ r → Comes o outer w r
within-spends o within outer w output r wish inner e items stands =
    (Spent output, reads-spent o.kind within items w output (here o items w (Sub within) stands wish) inner, then-spent outer output r e)

-- an expanded token is wished for, and the next one can't be expanded
pub comes-unexpandable : (o : Open) (outer : List Open) (w w' : World) (c : Command) (r : Result) → o.says [] w ≡ Sub Expanded → taking w ≡ Takes c w' → expansion c.meaning c w' ≡ Done (Unexpandable c) w' → ComesGiven o (Given (Unexpandable c)) outer w' r → Comes o outer w r
unfolding move_in
comes-unexpandable o outer w w' c r wish takes unexpandable after =
    within-gives o Expanded outer w w' (Unexpandable c) r wish
    (reads-takes Expanded [] w c w' (Gave (Unexpandable c) w') refl takes (reads-done Expanded (Tok c ∷ []) w' (Unexpandable c) w' unexpandable))
    after

-- its expansion is an error
pub comes-unexpanded : (o : Open) (outer : List Open) (w w' : World) (c : Command) (error : Error) (r : Result) → o.says [] w ≡ Sub Expanded → taking w ≡ Takes c w' → expansion c.meaning c w' ≡ Bad error w' → Failed (failure error w') ≡ r → Comes o outer w r
unfolding move_in
comes-unexpanded o outer w w' c error r wish takes bad e =
    within-fails o Expanded outer w (failure error w') r wish
    (reads-takes Expanded [] w c w' (Failed (failure error w')) refl takes (reads-bad Expanded (Tok c ∷ []) w' error w' bad))
    e

-- the token is expanded, and the reading goes on from there
expanded-first : (w w' w'' : World) (c : Command) (s : Result) → taking w ≡ Takes c w' → expansion c.meaning c w' ≡ Again w'' → Reads Expanded [] w'' s → Reads Expanded [] w s
unfolding move_in
expanded-first w w' w'' c s takes again after =
    reads-takes Expanded [] w c w' s refl takes (reads-again Expanded (Tok c ∷ []) w' w'' s again after)

-- how a reading that begins another one within ends
resumes : (k : Kind) (items : List Item) (within : Kind) (s : Result) (w w₂ : World) → move_in k items w ≡ Sub within → move_in k items w₂ ≡ Sub within → ((t : Result) → Reads within [] w₂ t → Reads within [] w t) → Reads k items w₂ s → Reads k items w s
unfolding reads
resumes k items within s w w₂ e e₂ earlier after =
    by-moves after.moves after.ends
  where
    by-inner : (n : ℕ) (o : Option Result) → reads n within [] w₂ ≡ o → follow (reads n) k items w₂ (Sub within) ≡ Some s → Reads k items w s
    by-inner n None is ends =
        let given : None ≡ Some s = subst (λ o. passing (λ v v'. reads n k (items ++ Given v ∷ []) v') o ≡ Some s) is ends in
        cc
    by-inner n (Some (Gave value w')) is ends =
        reads-gave k within items w value w' s e (earlier (Gave value w') (record { moves = n; ends = is })) (record { moves = n; ends = subst (λ o. passing (λ v v'. reads n k (items ++ Given v ∷ []) v') o ≡ Some s) is ends })
    by-inner n (Some (Failed f)) is ends =
        let given : Some (Failed f) ≡ Some s = subst (λ o. passing (λ v v'. reads n k (items ++ Given v ∷ []) v') o ≡ Some s) is ends in
        let same : Failed f ≡ s = cc in
        subst (λ o. Reads k items w o) same (reads-failed k within items w f e (earlier (Failed f) (record { moves = n; ends = is })))
    by-inner n (Some (Spent o)) is ends =
        let given : Some (Spent o) ≡ Some s = subst (λ o. passing (λ v v'. reads n k (items ++ Given v ∷ []) v') o ≡ Some s) is ends in
        let same : Spent o ≡ s = cc in
        subst (λ o. Reads k items w o) same (reads-spent k within items w o e (earlier (Spent o) (record { moves = n; ends = is })))

    by-moves : (n : ℕ) → reads n k items w₂ ≡ Some s → Reads k items w s
    by-moves zero ends = cc
    by-moves (suc n) ends = by-inner n (reads n within [] w₂) refl (subst (λ m. follow (reads n) k items w₂ m ≡ Some s) e₂ ends)

pub comes-expanded : (o : Open) (outer : List Open) (w w' w'' : World) (c : Command) (r : Result) → ((v : World) → o.says [] v ≡ Sub Expanded) → taking w ≡ Takes c w' → expansion c.meaning c w' ≡ Again w'' → Comes o outer w'' r → Comes o outer w r
comes-expanded o outer w w' w'' c r wish takes again after items stands =
    let rest = after items stands in
    (rest.0, resumes o.kind items Expanded rest.0 w w'' (here o items w (Sub Expanded) stands (wish w)) (here o items w'' (Sub Expanded) stands (wish w'')) (λ t. expanded-first w w' w'' c t takes again) rest.1, rest.2)

-- nothing is pending where an expanded token is wished for
pub comes-text-end : (o : Open) (outer : List Open) (w w' : World) (r : Result) → o.says [] w ≡ Sub Expanded → taking w ≡ Finds-none w' → ComesGiven o (Given TextEnd) outer w' r → Comes o outer w r
unfolding move_in
comes-text-end o outer w w' r wish none after =
    within-gives o Expanded outer w w' TextEnd r wish
    (reads-end Expanded [] w w' (Gave TextEnd w') refl none (reads-done Expanded (End ∷ []) w' TextEnd w' refl))
    after

pub comes-expanding-spent : (o : Open) (outer : List Open) (w : World) (output : Output) (r : Result) → o.says [] w ≡ Sub Expanded → taking w ≡ Spends output → Spent output ≡ r → Comes o outer w r
unfolding move_in
comes-expanding-spent o outer w output r wish spends e =
    within-spends o Expanded outer w output r wish (reads-spends Expanded [] w output refl spends) e

pub comes-expanding-broken : (o : Open) (outer : List Open) (w : World) (f : Failure) (r : Result) → o.says [] w ≡ Sub Expanded → taking w ≡ Breaks f → Failed f ≡ r → Comes o outer w r
unfolding move_in
comes-expanding-broken o outer w f r wish breaks e =
    within-fails o Expanded outer w f r wish (reads-breaks Expanded [] w f refl breaks) e

-- The item is given, and the reading goes on.
pub given-goes : (k : Kind) (old new : List Item → World → Move) (item : Item) (outer : List Open) (w : World) (r : Result) → GoesOn old item new → Comes (record { kind = k; says = new }) outer w r → ComesGiven (record { kind = k; says = old }) item outer w r
given-goes k old new item outer w r on after items stands =
    after (items ++ item ∷ []) (longer k old new item items on stands)

-- It goes on with a reading within.
pub given-within : (k : Kind) (old new : List Item → World → Move) (item : Item) (inner : Open) (outer : List Open) (w : World) (r : Result) → GoesOn old item new → new [] w ≡ Sub inner.kind → Stands inner [] → Comes inner (record { kind = k; says = new } ∷ outer) w r → ComesGiven (record { kind = k; says = old }) item outer w r
given-within k old new item inner outer w r on sub fresh after items stands =
    by-inner (after [] fresh).0 (after [] fresh).1 (after [] fresh).2
  where
    now : Stands (record { kind = k; says = new }) (items ++ item ∷ [])
    now = longer k old new item items on stands

    within : move_in k (items ++ item ∷ []) w ≡ Sub inner.kind
    within = here (record { kind = k; says = new }) (items ++ item ∷ []) w (Sub inner.kind) now sub

    by-inner : (s : Result) → Reads inner.kind [] w s → Then (record { kind = k; says = new } ∷ outer) s r → (t : Result) × Reads k (items ++ item ∷ []) w t × Then outer t r
    by-inner (Gave value w') reading then =
        let rest = then (items ++ item ∷ []) now in
        (rest.0, reads-gave k inner.kind (items ++ item ∷ []) w value w' rest.0 within reading rest.1, rest.2)
    by-inner (Failed f) reading then =
        (Failed f, reads-failed k inner.kind (items ++ item ∷ []) w f within reading, then-failed outer f r then)
    by-inner (Spent o) reading then =
        (Spent o, reads-spent k inner.kind (items ++ item ∷ []) w o within reading, then-spent outer o r then)

-- It begins again in another world.
pub given-again : (k : Kind) (old : List Item → World → Move) (item : Item) (outer : List Open) (w w' : World) (r : Result) → old (item ∷ []) w ≡ Again w' → Comes (begun k) outer w' r → ComesGiven (record { kind = k; says = old }) item outer w r
given-again k old item outer w w' r again after items stands =
    let rest = after [] (λ later v. refl) in
    (rest.0, reads-again k (items ++ item ∷ []) w w' rest.0 (stands (item ∷ []) w ∙ again) rest.1, rest.2)

-- It ends with a value.
pub given-done : (k : Kind) (old : List Item → World → Move) (item : Item) (outer : List Open) (w w' : World) (value : Value) (r : Result) → old (item ∷ []) w ≡ Done value w' → Then outer (Gave value w') r → ComesGiven (record { kind = k; says = old }) item outer w r
given-done k old item outer w w' value r done after items stands =
    (Gave value w', reads-done k (items ++ item ∷ []) w value w' (stands (item ∷ []) w ∙ done), after)

-- It is an error.
pub given-bad : (k : Kind) (old : List Item → World → Move) (item : Item) (outer : List Open) (w w' : World) (error : Error) (r : Result) → old (item ∷ []) w ≡ Bad error w' → Failed (failure error w') ≡ r → ComesGiven (record { kind = k; says = old }) item outer w r
given-bad k old item outer w w' error r bad e items stands =
    (Failed (failure error w'), reads-bad k (items ++ item ∷ []) w error w' (stands (item ∷ []) w ∙ bad), then-failed outer (failure error w') r e)

-- the whole: what main control comes to from its start
pub comes-to-end : (k : Kind) (w : World) (r : Result) → Comes (begun k) [] w r → (s : Result) × Reads k [] w s × TellsSame s r
comes-to-end k w r comes = comes [] (λ later v. refl)
