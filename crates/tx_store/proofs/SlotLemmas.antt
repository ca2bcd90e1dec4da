-- Places for lists, one of which changes.
use Rattle.std.proofs.Common.{◌≡◌, ◌≢◌, ℕ, zero, suc, ◌+◌, ◌-◌, ◌<◌, ◌≤◌, ◌==◌, Bool, true, false, cond, nat_lt, eqb, List, [], ◌∷◌, ◌++◌, length, get_or, slice_set, slice_get, position, Option, None, Some, IsSome, refl, sym, ◌∙◌, ap, subst, arith}
use Rattle.std.proofs.lemmas.Bool.{eqb-true, ne_eqb}
use Rattle.std.proofs.lemmas.Option.{slice_get-get_or, slice_get_past}
use Rattle.std.proofs.lemmas.List.Quantifiers.{position-Some}
use Rattle.tx_tok.specs.declared.tok.Tok.{Tok}
use Rattle.tx_store.specs.declared.slots.Slot.{Slot}
use Rattle.tx_store.specs.Sessions.{Holding}
use Rattle.tx_store.specs.Steps.{holding, count_of, content_of}
use Rattle.tx_store.specs.Plain.{held_by, held_at, total, SlotHolds}

-- a list in which one element is another, and one with an element more
set-here : {X : Type 0} (xs : List X) (i : ℕ) (x : X) → i < length xs → slice_get (slice_set xs i x) i ≡ Some x
set-here [] i x lt = absurd (omega (arith, lt))
set-here (y ∷ xs) zero x lt = refl
set-here (y ∷ xs) (suc i) x lt = set-here xs i x (omega (arith, lt))

set-others : {X : Type 0} (xs : List X) (i j : ℕ) (x : X) → j ≢ i → slice_get (slice_set xs i x) j ≡ slice_get xs j
set-others [] i j x ne = refl
set-others (y ∷ xs) zero zero x ne = absurd (ne refl)
set-others (y ∷ xs) zero (suc j) x ne = refl
set-others (y ∷ xs) (suc i) zero x ne = refl
set-others (y ∷ xs) (suc i) (suc j) x ne = set-others xs i j x (λ e. ne (ap suc e))

pub push-here : {X : Type 0} (xs : List X) (x : X) → slice_get (xs ++ x ∷ []) (length xs) ≡ Some x
push-here [] x = refl
push-here (y ∷ xs) x = push-here xs x

pub push-others : {X : Type 0} (xs : List X) (x : X) (j : ℕ) → j ≢ length xs → slice_get (xs ++ x ∷ []) j ≡ slice_get xs j
push-others [] x zero ne = absurd (ne refl)
push-others [] x (suc j) ne = refl
push-others (y ∷ xs) x zero ne = refl
push-others (y ∷ xs) x (suc j) ne = push-others xs x j (λ e. ne (ap suc e))

-- the references in all
total-set : (slots : List Slot) (i : ℕ) (slot d : Slot) → i < length slots → total (slice_set slots i slot) + (get_or slots i d).count ≡ total slots + slot.count
total-set [] i slot d lt = absurd (omega (arith, lt))
total-set (s ∷ slots) zero slot d lt = omega arith
total-set (s ∷ slots) (suc i) slot d lt = let ih = total-set slots i slot d (omega (arith, lt)) in omega (arith, ih)

total-push : (slots : List Slot) (slot : Slot) → total (slots ++ slot ∷ []) ≡ total slots + slot.count
total-push [] slot = omega arith
total-push (s ∷ slots) slot = let ih = total-push slots slot in omega (arith, ih)

pub count-total : (slots : List Slot) (i : ℕ) (d : Slot) → i < length slots → (get_or slots i d).count ≤ total slots
count-total [] i d lt = absurd (omega (arith, lt))
count-total (s ∷ slots) zero d lt = omega arith
count-total (s ∷ slots) (suc i) d lt = let ih = count-total slots i d (omega (arith, lt)) in omega (arith, ih)

-- a place that holds something is there, and has references
pub record Held (slots : List Slot) (id : ℕ) (slot : Slot) : Type 0 where
  pub within : id < length slots
  pub content : content_of (held_at slots id) ≡ slot.content
  pub count : count_of (held_at slots id) ≡ slot.count
  pub some : 0 < slot.count

not-zero : (n : ℕ) → (suc n == 0) ≡ false
not-zero n = ne_eqb (suc n) 0 (λ e. omega (arith, e))

held-by-slot : (slot : Slot) (n : ℕ) → slot.count ≡ n → IsSome (held_by (Some slot)) →
    (content_of (held_by (Some slot)) ≡ slot.content) × (count_of (held_by (Some slot)) ≡ slot.count) × (0 < slot.count)
held-by-slot slot zero e is = let none = subst (λ n. IsSome (holding slot.content n)) e is in cc
held-by-slot slot (suc n) e is =
    let here : holding slot.content slot.count ≡ Some (record { content = slot.content; count = suc n }) = ap (holding slot.content) e ∙ ap (λ b. cond b None (Some (record { content = slot.content; count = suc n }))) (not-zero n) in
    (ap content_of here, ap count_of here ∙ sym e, omega (arith, e))

held-within : (slots : List Slot) (id : ℕ) → IsSome (held_at slots id) → id < length slots
held-within [] id is = cc
held-within (s ∷ slots) zero is = omega arith
held-within (s ∷ slots) (suc id) is = let ih = held-within slots id is in omega (arith, ih)

pub held : (slots : List Slot) (id : ℕ) (slot : Slot) → IsSome (held_at slots id) → slot ≡ get_or slots id slot → Held slots id slot
held slots id slot is at =
    let within = held-within slots id is in
    let there : slice_get slots id ≡ Some slot = slice_get-get_or slots id slot within ∙ ap Some (sym at) in
    let facts = held-by-slot slot slot.count refl (subst (λ o. IsSome (held_by o)) there is) in
    record {
      within = within;
      content = ap (λ o. content_of (held_by o)) there ∙ facts.0;
      count = ap (λ o. count_of (held_by o)) there ∙ facts.1;
      some = facts.2;
    }

-- after a change of one place
pub set-holds : (slots : List Slot) (id : ℕ) (slot : Slot) (content text : List Tok) (count n all : ℕ) → id < length slots → slot ≡ get_or slots id slot →
    text ≡ content → n ≡ count → all + slot.count ≡ total slots + count → SlotHolds slots id text n all (slice_set slots id (record { content = content; count = count }))
set-holds slots id slot content text count n all within at same_text same_count sums =
    let new : Slot = record { content = content; count = count } in
    let changed = total-set slots id new slot within in
    let same : slot.count ≡ (get_or slots id slot).count = ap (λ s. s.count) at in
    record {
      here = ap held_by (set-here slots id new within) ∙ ap (λ t. holding t count) (sym same_text) ∙ ap (holding text) (sym same_count);
      others = λ other ne. ap held_by (set-others slots id other new ne);
      total = omega (arith, changed, same, sums);
    }

pub taken : (slots : List Slot) (id : ℕ) (slot : Slot) → IsSome (held_at slots id) → slot ≡ get_or slots id slot →
    SlotHolds slots id (content_of (held_at slots id)) (count_of (held_at slots id) + 1) (total slots + 1) (slice_set slots id (record { content = slot.content; count = slot.count + 1 }))
taken slots id slot is at =
    let h = held slots id slot is at in
    set-holds slots id slot slot.content (content_of (held_at slots id)) (slot.count + 1) (count_of (held_at slots id) + 1) (total slots + 1) h.within at h.content (ap (λ n. n + 1) h.count) (omega arith)

pub released : (slots : List Slot) (id : ℕ) (slot : Slot) → IsSome (held_at slots id) → slot ≡ get_or slots id slot →
    SlotHolds slots id (content_of (held_at slots id)) (count_of (held_at slots id) - 1) (total slots - 1) (slice_set slots id (record { content = slot.content; count = slot.count - 1 }))
released slots id slot is at =
    let h = held slots id slot is at in
    let bound = count-total slots id slot h.within in
    let same : slot.count ≡ (get_or slots id slot).count = ap (λ s. s.count) at in
    let some = h.some in
    set-holds slots id slot slot.content (content_of (held_at slots id)) (slot.count - 1) (count_of (held_at slots id) - 1) (total slots - 1) h.within at h.content (ap (λ n. n - 1) h.count) (omega (arith, bound, same, some))

-- and after one place more
pub push-holds : (slots new : List Slot) (id : ℕ) (content text : List Tok) → id ≡ length slots → content ≡ text →
    new ≡ slots ++ (record { content = content; count = 1 }) ∷ [] → SlotHolds slots id text 1 (total slots + 1) new
push-holds slots new id content text at same is =
    let slot : Slot = record { content = content; count = 1 } in
    record {
      here = ap (λ l. held_at l id) is ∙ ap (held_at (slots ++ slot ∷ [])) at ∙ ap held_by (push-here slots slot) ∙ ap (λ t. holding t 1) same;
      others = λ other ne. ap (λ l. held_at l other) is ∙ ap held_by (push-others slots slot other (λ e. ne (e ∙ sym at)));
      total = ap total is ∙ total-push slots slot;
    }

-- no place is past the end
pub past-free : (slots : List Slot) (id : ℕ) → id ≡ length slots → held_at slots id ≡ None
past-free slots id at = ap held_by (slice_get_past slots id (omega (arith, at)))

-- a place without references is free
pub record Free (slots : List Slot) (id : ℕ) (slot : Slot) : Type 0 where
  pub within : id < length slots
  pub count : slot.count ≡ 0
  pub free : held_at slots id ≡ None

pub found-free : (slots : List Slot) (id : ℕ) (slot : Slot) → position (λ s. s.count == 0) slots ≡ Some id → slot ≡ get_or slots id slot → Free slots id slot
found-free slots id slot e at =
    let found = position-Some (λ (s : Slot). s.count == 0) slots id slot e in
    let none : slot.count ≡ 0 = ap (λ s. s.count) at ∙ eqb-true (get_or slots id slot).count 0 found.1 in
    record {
      within = found.0;
      count = none;
      free = ap held_by (slice_get-get_or slots id slot found.0 ∙ ap Some (sym at)) ∙ ap (holding slot.content) none;
    }
