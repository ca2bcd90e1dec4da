-- All names of a store, and what they are after a text was looked for.
use Rattle.std.proofs.Common.{◌≡◌, ◌≢◌, ℕ, zero, suc, ◌+◌, ◌-◌, ◌<◌, ◌≤◌, Bool, true, false, cond, nat_lt, not, List, [], ◌∷◌, ◌++◌, length, get_or, slice_get, position, Option, None, Some, Result, Ok, Err, IfOk, OnOk, OnErr, refl, sym, ◌∙◌, ap, subst, inl, inr, arith, length-append}
use Rattle.std.specs.List.{position_or_len}
use Rattle.std.specs.Option.{option_map}
use Rattle.std.specs.Str.{bytes_eq}
use Rattle.std.proofs.lemmas.Bool.{cases_lt, cases_eq}
use Rattle.std.proofs.lemmas.Bool.Decides.{nat_tests}
use Rattle.std.proofs.lemmas.Option.{slice_get-get_or, slice_get_past, slice_get_within, get_or_from_slice_get, same_Some}
use Rattle.std.proofs.lemmas.Slice.Eq.{bytes_eq-Decides}
use Rattle.tx_names.specs.Names.{Names, number_of, text_at, with_text, IsDistinct as NamesDiffer}
use Rattle.tx_names.proofs.TextLemmas.{at_number}
use Rattle.tx_format.specs.Formats.{table_of}
use Rattle.tx_format.specs.declared.state.Engineless.{Engineless}
use Rattle.tx_store.specs.declared.slots.Slot.{Slot}
use Rattle.tx_store.specs.Sessions.{Session, IsSound, IsNew}
use Rattle.tx_store.specs.Steps.{Same, AfterIntern, AfterFind}
use Rattle.tx_store.specs.Plain.{Plain, TextsDiffer, session_of}
use Rattle.tx_store.proofs.SlotLemmas.{push-here, push-others}

-- two lists, one behind the other
append-left : {X : Type 0} (xs ys : List X) (k : ℕ) → k < length xs → slice_get (xs ++ ys) k ≡ slice_get xs k
append-left [] ys k lt = absurd (omega (arith, lt))
append-left (x ∷ xs) ys zero lt = refl
append-left (x ∷ xs) ys (suc k) lt = append-left xs ys k (omega (arith, lt))

append-right : {X : Type 0} (xs ys : List X) (k : ℕ) → length xs ≤ k → slice_get (xs ++ ys) k ≡ slice_get ys (k - length xs)
append-right [] ys k le = let same : k ≡ k - 0 = omega arith in ap (slice_get ys) same
append-right (x ∷ xs) ys zero le = absurd (omega (arith, le))
append-right (x ∷ xs) ys (suc k) le = let same : k - length xs ≡ suc k - suc (length xs) = omega arith in append-right xs ys k (omega (arith, le)) ∙ ap (slice_get ys) same

append-nothing : {X : Type 0} (xs : List X) → xs ++ [] ≡ xs
append-nothing [] = refl
append-nothing (x ∷ xs) = ap (λ l. x ∷ l) (append-nothing xs)

append-twice : {X : Type 0} (xs ys zs : List X) → xs ++ (ys ++ zs) ≡ (xs ++ ys) ++ zs
append-twice [] ys zs = refl
append-twice (x ∷ xs) ys zs = ap (λ l. x ∷ l) (append-twice xs ys zs)

-- where no element passes a test
below : (n m : ℕ) → n < m → nat_lt n m ≡ true
below n m h = grind (arith, nat_tests)

none-place : (n len : ℕ) → cond (nat_lt n len) (Some n) None ≡ None → len ≤ n
none-place n len e =
    elim (cases_lt n len) [
      | inl before ↦
          let bad : None ≡ Some n = sym e ∙ ap (λ b. cond b (Some n) None) (below n len before) in
          cc
      | inr behind ↦ behind
    ]

fails-by : {X : Type 0} (p : X → Bool) (y : X) (xs : List X) → (length xs ≤ position_or_len p xs → (k : ℕ) (x : X) → slice_get xs k ≡ Some x → p x ≡ false) →
    (b : Bool) → p y ≡ b → suc (length xs) ≤ cond (not b) (1 + position_or_len p xs) 0 → (k : ℕ) (x : X) → slice_get (y ∷ xs) k ≡ Some x → p x ≡ false
fails-by p y xs rest true is h k x e = absurd (omega (arith, h))
fails-by p y xs rest false is h zero x e = ap p (sym (same_Some y x e)) ∙ is
fails-by p y xs rest false is h (suc k) x e = rest (omega (arith, h)) k x e

fails : {X : Type 0} (p : X → Bool) (xs : List X) → length xs ≤ position_or_len p xs → (k : ℕ) (x : X) → slice_get xs k ≡ Some x → p x ≡ false
fails p [] h k x e = cc
fails p (y ∷ xs) h k x e = fails-by p y xs (fails p xs) (p y) refl h k x e

pub no-place : {X : Type 0} (p : X → Bool) (xs : List X) → position p xs ≡ None → (k : ℕ) (x : X) → slice_get xs k ≡ Some x → p x ≡ false
no-place p xs e = fails p xs (none-place (position_or_len p xs) (length xs) e)

no-map : {X Y : Type 0} (f : X → Y) (o : Option X) → option_map f o ≡ None → o ≡ None
no-map f None e = refl
no-map f (Some x) e = cc

-- what a table knows of a text
known : (names : Names) (text : List ℕ) (n : ℕ) → number_of names text ≡ Some n → (names.first ≤ n) × (slice_get names.texts (n - names.first) ≡ Some text)
known names text n e =
    let at = at_number names text n e in
    let above = at.0.0 in
    let short = at.0.1 in
    (above, slice_get-get_or names.texts (n - names.first) [] (omega (arith, above, short)) ∙ ap Some at.1)

unknown : (names : Names) (text : List ℕ) → number_of names text ≡ None → (k : ℕ) → slice_get names.texts k ≢ Some text
unknown names text e k is =
    let fails = no-place (bytes_eq text) names.texts (no-map (λ place. names.first + place) (position (bytes_eq text) names.texts) e) k text is in
    let same = (bytes_eq-Decides text text).1 refl in
    cc

-- the texts of a format, and those that a store has beside them
module _ (fixed texts : List (List ℕ)) where
  pub of-format : (text : List ℕ) (n : ℕ) → number_of (table_of fixed) text ≡ Some n → slice_get (fixed ++ texts) n ≡ Some text
  of-format text n e =
      let at = known (table_of fixed) text n e in
      let same : n ≡ n - 0 = omega arith in
      let here : slice_get fixed n ≡ Some text = ap (slice_get fixed) same ∙ at.1 in
      append-left fixed texts n (slice_get_within fixed n text here) ∙ here

  pub of-store : (first : ℕ) (text : List ℕ) (n : ℕ) → first ≡ length fixed → number_of (record { first = first; texts = texts }) text ≡ Some n → slice_get (fixed ++ texts) n ≡ Some text
  of-store first text n is e =
      let at = known (record { first = first; texts = texts }) text n e in
      let above = at.0 in
      append-right fixed texts n (omega (arith, above, is)) ∙ ap (λ m. slice_get texts (n - m)) (sym is) ∙ at.1

  pub of-none : (first : ℕ) (text : List ℕ) → number_of (table_of fixed) text ≡ None → number_of (record { first = first; texts = texts }) text ≡ None →
      (n : ℕ) → slice_get (fixed ++ texts) n ≢ Some text
  of-none first text none absent n e =
      elim (cases_lt n (length fixed)) [
        | inl before ↦ unknown (table_of fixed) text none n (sym (append-left fixed texts n before) ∙ e)
        | inr behind ↦ unknown (record { first = first; texts = texts }) text absent (n - length fixed) (sym (append-right fixed texts n behind) ∙ e)
      ]

-- a new text behind texts that differ
differ-push : (texts : List (List ℕ)) (text : List ℕ) → TextsDiffer texts → ((n : ℕ) → slice_get texts n ≢ Some text) → TextsDiffer (texts ++ text ∷ [])
differ-push texts text differ absent n m other e f =
    elim (cases_eq n (length texts)) [
      | inl last_n ↦ elim (cases_eq m (length texts)) [
        | inl last_m ↦ last_n ∙ sym last_m
        | inr before_m ↦ absurd (clash n m last_n before_m e f)
      ]
      | inr before_n ↦ elim (cases_eq m (length texts)) [
        | inl last_m ↦ absurd (clash m n last_m before_n f e)
        | inr before_m ↦ differ n m other (sym (push-others texts text n before_n) ∙ e) (sym (push-others texts text m before_m) ∙ f)
      ]
    ]
  where
    clash : (i j : ℕ) → i ≡ length texts → j ≢ length texts → slice_get (texts ++ text ∷ []) i ≡ Some other → slice_get (texts ++ text ∷ []) j ≡ Some other → ⊥
    clash i j last before e f =
        let same : text ≡ other = same_Some text other (sym (push-here texts text) ∙ ap (slice_get (texts ++ text ∷ [])) (sym last) ∙ e) in
        absent j (sym (push-others texts text j before) ∙ f ∙ ap Some (sym same))

-- the store over these parts
abbrev store_of : Engineless → List (List ℕ) → List Slot → Plain
store_of format texts slots = record { format = format; texts = texts; slots = slots }

-- a text that has this number
pub after-known : (format : Engineless) (texts : List (List ℕ)) (slots : List Slot) (plain : Plain) (text : List ℕ) (n : ℕ) → store_of format texts slots ≡ plain →
    TextsDiffer (format.names ++ texts) → slice_get (format.names ++ texts) n ≡ Some text → AfterIntern (session_of plain) text n (session_of plain)
after-known format texts slots plain text n is differ has = subst (λ p. AfterIntern (session_of p) text n (session_of p)) is (record {
  now = has;
  known = λ m e. differ n m text has e;
  free = λ other e. same_Some other text (sym e ∙ has);
  others = λ m ne. refl;
  format = refl;
  row = record { row = λ id. refl; total = refl };
})

-- a text that has none
after-none : (format : Engineless) (texts : List (List ℕ)) (slots : List Slot) (plain : Plain) (text : List ℕ) → store_of format texts slots ≡ plain →
    ((n : ℕ) → slice_get (format.names ++ texts) n ≢ Some text) → AfterFind (session_of plain) text None (session_of plain)
after-none format texts slots plain text is absent = subst (λ p. AfterFind (session_of p) text None (session_of p)) is
    (absent, (record { names = λ n. refl; format = refl }, record { row = λ id. refl; total = refl }))

-- after a look among the texts beside those of the format
pub after-look : (format : Engineless) (names : Names) (slots : List Slot) (plain : Plain) (text : List ℕ) (r : Option ℕ) → store_of format names.texts slots ≡ plain →
    names.first ≡ length format.names → TextsDiffer (format.names ++ names.texts) → number_of (table_of format.names) text ≡ None → r ≡ number_of names text →
    AfterFind (session_of plain) text r (session_of plain)
after-look format names slots plain text None is at differ none e =
    after-none format names.texts slots plain text is (of-none format.names names.texts names.first text none (sym e))
after-look format names slots plain text (Some n) is at differ none e =
    after-known format names.texts slots plain text n is differ (of-store format.names names.texts names.first text n at (sym e))

-- the texts with a new one
module _ (fixed texts : List (List ℕ)) (text : List ℕ) (differ : TextsDiffer (fixed ++ texts)) (absent : (n : ℕ) → slice_get (fixed ++ texts) n ≢ Some text) where
  abbrev pushed : List (List ℕ)
  pushed = fixed ++ (texts ++ text ∷ [])

  as-pushed : pushed ≡ (fixed ++ texts) ++ text ∷ []
  as-pushed = append-twice fixed texts (text ∷ [])

  differ-new : TextsDiffer pushed
  differ-new = subst TextsDiffer (sym as-pushed) (differ-push (fixed ++ texts) text differ absent)

  last-new : (n : ℕ) → slice_get pushed n ≡ Some text → n ≡ length (fixed ++ texts)
  last-new n has = differ-new n (length (fixed ++ texts)) text has (ap (λ l. slice_get l (length (fixed ++ texts))) as-pushed ∙ push-here (fixed ++ texts) text)

  others-new : (n m : ℕ) → slice_get pushed n ≡ Some text → m ≢ n → slice_get pushed m ≡ slice_get (fixed ++ texts) m
  others-new n m has ne = ap (λ l. slice_get l m) as-pushed ∙ push-others (fixed ++ texts) text m (λ e. ne (e ∙ sym (last-new n has)))

  free-new : (n : ℕ) (other : List ℕ) → slice_get pushed n ≡ Some text → slice_get (fixed ++ texts) n ≡ Some other → other ≡ text
  free-new n other has e =
      let last = last-new n has in
      let past = slice_get_past (fixed ++ texts) n (omega (arith, last)) in
      let bad : None ≡ Some other = sym past ∙ e in
      cc

-- after a text joined
after-new : (format : Engineless) (texts : List (List ℕ)) (slots : List Slot) (text : List ℕ) (n : ℕ) → TextsDiffer (format.names ++ texts) →
    ((m : ℕ) → slice_get (format.names ++ texts) m ≢ Some text) → slice_get (format.names ++ (texts ++ text ∷ [])) n ≡ Some text →
    AfterIntern (session_of (store_of format texts slots)) text n (session_of (store_of format (texts ++ text ∷ []) slots))
after-new format texts slots text n differ absent has = record {
  now = has;
  known = λ m e. absurd (absent m e);
  free = λ other e. free-new format.names texts text differ absent n other has e;
  others = λ m ne. others-new format.names texts text differ absent n m has ne;
  format = refl;
  row = record { row = λ id. refl; total = refl };
}

-- after a text was looked for among the texts beside those of the format, and joined where it wasn't there
module _ (format : Engineless) (names new : Names) (slots : List Slot) (text : List ℕ) (at : names.first ≡ length format.names)
    (differ : TextsDiffer (format.names ++ names.texts)) (none : number_of (table_of format.names) text ≡ None) where
  sound-same : new ≡ names → (new.first ≡ length format.names) × TextsDiffer (format.names ++ new.texts)
  sound-same e = (ap (λ t. t.first) e ∙ at, subst (λ t. TextsDiffer (format.names ++ t.texts)) (sym e) differ)

  sound-by : (r : Option ℕ) → number_of names text ≡ r → (number_of names text ≢ None → new ≡ names) → (number_of names text ≡ None → new ≡ with_text text names) →
      (new.first ≡ length format.names) × TextsDiffer (format.names ++ new.texts)
  sound-by (Some k) e same joined = sound-same (same (λ no. cc))
  sound-by None e same joined = (
    ap (λ t. t.first) (joined e) ∙ at,
    subst (λ t. TextsDiffer (format.names ++ t.texts)) (sym (joined e)) (differ-new format.names names.texts text differ (of-none format.names names.texts names.first text none e)),
  )

  pub sound-interned : {E : Type 0} (result : Result ℕ E) → OnOk result (number_of names text ≢ None → new ≡ names) → OnOk result (number_of names text ≡ None → new ≡ with_text text names) →
      OnErr result (new ≡ names) → (new.first ≡ length format.names) × TextsDiffer (format.names ++ new.texts)
  sound-interned (Ok n) same joined err = sound-by (number_of names text) refl same joined
  sound-interned (Err e) same joined err = sound-same err

  interned-by : (n : ℕ) (r : Option ℕ) → number_of names text ≡ r → (number_of names text ≢ None → new ≡ names) → (number_of names text ≡ None → new ≡ with_text text names) →
      number_of new text ≡ Some n → AfterIntern (session_of (store_of format names.texts slots)) text n (session_of (store_of format new.texts slots))
  interned-by n (Some k) e same joined now =
      let is = same (λ no. cc) in
      subst (λ t. AfterIntern (session_of (store_of format names.texts slots)) text n (session_of (store_of format t.texts slots))) (sym is)
      (after-known format names.texts slots (store_of format names.texts slots) text n refl differ
      (of-store format.names names.texts names.first text n at (ap (λ t. number_of t text) (sym is) ∙ now)))
  interned-by n None e same joined now =
      let is = joined e in
      subst (λ t. AfterIntern (session_of (store_of format names.texts slots)) text n (session_of (store_of format t.texts slots))) (sym is)
      (after-new format names.texts slots text n differ (of-none format.names names.texts names.first text none e)
      (of-store format.names (names.texts ++ text ∷ []) names.first text n at (ap (λ t. number_of t text) (sym is) ∙ now)))

  pub after-interned : {E : Type 0} (result : Result ℕ E) (plain : Plain) → store_of format names.texts slots ≡ plain →
      IfOk result (λ n. number_of new text ≡ Some n) → OnOk result (number_of names text ≢ None → new ≡ names) → OnOk result (number_of names text ≡ None → new ≡ with_text text names) →
      IfOk result (λ n. AfterIntern (session_of plain) text n (session_of (store_of format new.texts slots)))
  after-interned (Ok n) plain is now same joined =
      subst (λ p. AfterIntern (session_of p) text n (session_of (store_of format new.texts slots))) is (interned-by n (number_of names text) refl same joined now)
  after-interned (Err e) plain is now same joined = tt

-- the names of a new store
differ-fixed : (fixed : List (List ℕ)) → NamesDiffer (table_of fixed) → TextsDiffer fixed
differ-fixed fixed differ n m text e f =
    let within_n = slice_get_within fixed n text e in
    let within_m = slice_get_within fixed m text f in
    let same_n : n - 0 ≡ n = omega arith in
    let same_m : m - 0 ≡ m = omega arith in
    differ n m (omega arith, omega (arith, within_n)) (omega arith, omega (arith, within_m))
    (ap (λ k. get_or fixed k []) same_n ∙ get_or_from_slice_get fixed n text [] e ∙ sym (get_or_from_slice_get fixed m text [] f) ∙ ap (λ k. get_or fixed k []) (sym same_m))

pub sound-new : (fixed : List (List ℕ)) (first : ℕ) (names : Names) → names ≡ record { first = first; texts = [] } → first ≡ length fixed → NamesDiffer (table_of fixed) →
    (names.first ≡ length fixed) × TextsDiffer (fixed ++ names.texts)
sound-new fixed first names is at differ = (
  ap (λ t. t.first) is ∙ at,
  subst (λ t. TextsDiffer (fixed ++ t.texts)) (sym is) (subst TextsDiffer (sym (append-nothing fixed)) (differ-fixed fixed differ)),
)

pub is-new : (format : Engineless) (texts : List (List ℕ)) (slots : List Slot) → TextsDiffer (format.names ++ texts) → slots ≡ [] → IsNew format (session_of (store_of format texts slots))
is-new format texts slots differ is = subst (λ l. IsNew format (session_of (store_of format texts l))) (sym is) (record {
  sound = record {
    of_format = λ n lt. append-left format.names texts n lt ∙ slice_get-get_or format.names n [] lt;
    distinct = differ;
    held = λ id holding e. cc;
  };
  row = λ id. refl;
  total = refl;
  format = refl;
})
