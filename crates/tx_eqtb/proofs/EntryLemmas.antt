-- What the changes of a map from addresses do to its entries.
use Rattle.std.proofs.Common.{◌≡◌, ℕ, ◌+◌, Bool, true, false, cond, List, [], ◌∷◌, ◌++◌, Option, None, Some, Result, Ok, OnOk, IfOk, IfSome, is_some, unwrap_or, sum_by, position, get_or, refl, sym, ap, subst, ◌∙◌, true≢false, arith}
use Rattle.std.specs.Map.{lookup, keys_of, values_of}
use Rattle.std.specs.Option.{option_map_or, option_to_list}
use Rattle.std.specs.List.{swap_remove}
use Rattle.std.proofs.lemmas.List.{get_or-map}
use Rattle.std.proofs.lemmas.List.Sums.{sum_by-cons, sum_by-swap_remove}
use Rattle.std.proofs.lemmas.Option.{get_or_from_slice_get}
use Rattle.indexmap.specs.IndexMap.{IndexMap, insert_entry, swap_remove_entry, Updates}
use Rattle.indexmap.proofs.MapLemmas.{Found-position, some_index}
use Rattle.tx_eqtb.specs.declared.addr.Addr.{Addr}
use Rattle.tx_eqtb.specs.contracts.addr.AddrEq.TheImpl.Laws.{laws-law}
use Rattle.tx_eqtb.specs.Addresses.{same, entry_at}

-- what holds of an answer that is Ok
pub on_ok : {T E P : Type 0} (r : Result T E) (x : T) → r ≡ Ok x → OnOk r P → P
on_ok {T} {E} {P} r x e h = subst (λ s. OnOk s P) e h

some_same : {X : Type 0} {x y : X} → Some x ≡ Some y → x ≡ y
some_same {X} {x} e = ap (λ r. unwrap_or r x) e

by_answer : {P : Type 0} (b : Bool) → (b ≡ true → P) → (b ≡ false → P) → P
by_answer true p q = p refl
by_answer false p q = q refl

-- an entry at the end is found, where its address has none before
pub entry_at-push : {V : Type 0} (es : List (Addr × V)) (p : Addr × V) → entry_at es p.0 ≡ None → same p.0 p.0 ≡ true → entry_at (es ++ p ∷ []) p.0 ≡ Some p.1
entry_at-push [] p none own = ap (λ b. cond b (Some p.1) None) own
entry_at-push (e ∷ es) p none own = by_answer (same p.0 e.0)
    (λ y. absurd (true≢false (ap is_some (ap (λ b. cond b (Some e.1) (entry_at es p.0)) (sym y) ∙ none))))
    (λ n. ap (λ b. cond b (Some e.1) (entry_at (es ++ p ∷ []) p.0)) n ∙ entry_at-push es p (ap (λ b. cond b (Some e.1) (entry_at es p.0)) (sym n) ∙ none) own)

-- a sum over the values, after one was put in the place of another
pub sum_by-inserted : {V : Type 0} (f : V → ℕ) (es : List (Addr × V)) (k : Addr) (v old : V) → entry_at es k ≡ Some old → sum_by f (values_of (insert_entry same es k v)) + f old ≡ sum_by f (values_of es) + f v
sum_by-inserted f [] k v old found = absurd (true≢false (sym (ap is_some found)))
sum_by-inserted f (e ∷ es) k v old found = by_answer (same k e.0)
    (λ y.
    let is : e.1 ≡ old = some_same (ap (λ b. cond b (Some e.1) (entry_at es k)) (sym y) ∙ found) in
    let shape = ap (λ b. sum_by f (values_of (cond b ((e.0, v) ∷ es) (e ∷ insert_entry same es k v)))) y in
    omega (arith, shape, ap f is, sum_by-cons f v (values_of es), sum_by-cons f e.1 (values_of es)))
    (λ n.
    let rest = sum_by-inserted f es k v old (ap (λ b. cond b (Some e.1) (entry_at es k)) (sym n) ∙ found) in
    let shape = ap (λ b. sum_by f (values_of (cond b ((e.0, v) ∷ es) (e ∷ insert_entry same es k v)))) n in
    omega (arith, shape, rest, sum_by-cons f e.1 (values_of es), sum_by-cons f e.1 (values_of (insert_entry same es k v))))

sum_by-values : {V : Type 0} (f : V → ℕ) (es : List (Addr × V)) → sum_by f (values_of es) ≡ sum_by (λ e. f e.1) es
sum_by-values f [] = refl
sum_by-values {V} f (e ∷ es) =
    let g : Addr × V → ℕ = λ x. f x.1 in
    omega (arith, sum_by-cons f e.1 (values_of es), sum_by-cons g e es, sum_by-values f es)

-- a sum over the values, after one was taken out
pub sum_by-removed : {V : Type 0} (f : V → ℕ) (es : List (Addr × V)) (test : Addr → Bool) (old : V) → lookup test es ≡ Some old → sum_by f (values_of (swap_remove_entry test es)) + f old ≡ sum_by f (values_of es)
sum_by-removed f [] test old found = absurd (true≢false (sym (ap is_some found)))
sum_by-removed {V} f (e ∷ es) test old found = by (position test (keys_of (e ∷ es))) refl
  where
    by : (r : Option ℕ) → position test (keys_of (e ∷ es)) ≡ r → sum_by f (values_of (swap_remove_entry test (e ∷ es))) + f old ≡ sum_by f (values_of (e ∷ es))
    by None p = absurd (true≢false (sym (ap is_some (sym p) ∙ some_index test (e ∷ es) ∙ ap is_some found)))
    by (Some i) p =
        let at = Found-position test (e ∷ es) i p in
        let g : Addr × V → ℕ = λ x. f x.1 in
        let there : get_or (values_of (e ∷ es)) i e.1 ≡ old = get_or_from_slice_get (values_of (e ∷ es)) i old e.1 (sym at.value ∙ found) in
        let here : (get_or (e ∷ es) i e).1 ≡ old = sym (get_or-map (λ x. x.1) (e ∷ es) i e e.1 at.within) ∙ there in
        let shape : swap_remove_entry test (e ∷ es) ≡ swap_remove (e ∷ es) i e = ap (λ o. option_map_or (λ j. swap_remove (e ∷ es) j e) o (e ∷ es)) p in
        let out = sum_by-swap_remove g (e ∷ es) i e at.within in
        omega (arith, ap (λ l. sum_by f (values_of l)) shape, sum_by-values f (swap_remove (e ∷ es) i e), sum_by-values f (e ∷ es), out, ap f here)

pub if_ok : {T E : Type 0} (P : T → Type 0) (r : Result T E) (x : T) → r ≡ Ok x → IfOk r P → P x
if_ok P r x e h = subst (λ s. IfOk s P) e h

-- the entry that came off the end was the one at its address
pub popped : {V S : Type 0} (m n : IndexMap Addr V S) (r : Option (Addr × V)) → m.entries ≡ n.entries ++ option_to_list r → IfSome r (λ p. Updates same m n p.0 None) → IfSome r (λ p. entry_at m.entries p.0 ≡ Some p.1)
popped m n None e u = tt
popped m n (Some p) e u = ap (λ l. entry_at l p.0) e ∙ entry_at-push n.entries p u.1 (laws-law.refl p.0)
