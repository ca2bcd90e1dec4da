-- Each meaning of the maps that a state stands for is one that it holds, or one of the frozen map.
use Rattle.std.proofs.Common.{◌≡◌, ℕ, ◌+◌, ◌≤◌, ◌==◌, Bool, true, false, cond, List, [], ◌∷◌, ◌++◌, Option, None, Some, IfSome, unwrap_or, if◌then◌else◌, arith, refl, sym, ap, subst, ◌∙◌, eq-eqb}
use Rattle.std.specs.Prelude.{⊤}
use Rattle.std.specs.Map.{values_of}
use Rattle.std.specs.Option.{option_map_or}
use Rattle.std.proofs.lemmas.List.Sums.{sum_by-cons, sum_by-append}
use Rattle.tx_node.specs.declared.BoxNode.{BoxNode}
use Rattle.tx_eqtb.specs.declared.addr.Addr.{Addr}
use Rattle.tx_eqtb.specs.declared.meaning.Meaning.{Meaning}
use Rattle.tx_eqtb.specs.declared.meaning.Before.{Before}
use Rattle.tx_eqtb.specs.declared.meaning.Before.TheVariants as was
use Rattle.tx_eqtb.specs.declared.meaning.Old.{Old}
use Rattle.tx_eqtb.specs.declared.meaning.Old.TheVariants as old
use Rattle.tx_eqtb.specs.Addresses.{same, entry_at, update}
use Rattle.tx_eqtb.specs.Meanings.{Map}
use Rattle.tx_eqtb.specs.Tables.{Table, now, before, said, in_note, kept, held, SameCounts}
use Rattle.tx_eqtb.specs.Steps.{moved, meaning_back}
use Rattle.tx_save.specs.declared.save.Save.{Save}
use Rattle.tx_save.specs.declared.save.Save.TheVariants as save
use Rattle.tx_save.specs.Levels.{level_at}
use Rattle.tx_save.specs.Saves.{Saves, below, outside, saved, all_held}
use Rattle.tx_environment.specs.Holding.{pooled_of, is_number, counted, IsCountedIn, IsHeldIn, HasNoPooled}

-- what holds of both choices
chosen : {X : Type 0} (P : X → Type 0) (b : Bool) (x y : X) → P x → P y → P (if b then x else y)
chosen P true x y p q = p
chosen P false x y p q = q

module _ {B : Type 0} (P : Meaning B → Type 0) where
  -- P holds of each meaning of a list
  abbrev pub Each : List (Meaning B) → Type 0
  Each [] = ⊤
  Each (m ∷ meanings) = P m × Each meanings

  -- P holds of each meaning of a map, and of each of these maps
  abbrev pub Everywhere : Map B → Type 0
  Everywhere m = (at : Addr) → P (m at)

  abbrev pub EverywhereIn : List (Map B) → Type 0
  EverywhereIn [] = ⊤
  EverywhereIn (m ∷ maps) = Everywhere m × EverywhereIn maps

  each-append : (xs ys : List (Meaning B)) → Each (xs ++ ys) → Each xs × Each ys
  each-append [] ys all = (tt, all)
  each-append (x ∷ xs) ys all =
      let parts = each-append xs ys all.1 in
      ((all.0, parts.0), parts.1)

  -- an entry is one of the values
  at-entry : (es : List (Addr × Meaning B)) (q : Addr) (m : Meaning B) → Each (values_of es) → P m → P (unwrap_or (entry_at es q) m)
  at-entry [] q m all there = there
  at-entry (e ∷ es) q m all there = chosen (λ o. P (unwrap_or o m)) (same q e.0) (Some e.1) (entry_at es q) all.0 (at-entry es q m all.1 there)

  at-said : (m : Meaning B) (b : Before B) → P m → Each (in_note b) → P (said m b)
  at-said m was.Frozen there all = there
  at-said m (was.Kept k) there all = all.0

  -- what a note of the journal keeps is one of the meanings that the journal keeps
  at-noted : (journal : List (Addr × Before B)) (q : Addr) (m n : Meaning B) → Each (kept journal) → P m → P n → P (option_map_or (said m) (entry_at journal q) n)
  at-noted [] q m n all frozen there = there
  at-noted (e ∷ journal) q m n all frozen there =
      let parts = each-append (in_note e.1) (kept journal) all in
      chosen (λ o. P (option_map_or (said m) o n)) (same q e.0) (Some e.1) (entry_at journal q) (at-said m e.1 frozen parts.0) (at-noted journal q m n parts.1 frozen there)

  at-back : (first : Meaning B) (o : Old B) → P first → Each (moved o) → P (meaning_back first o)
  at-back first old.Frozen there all = there
  at-back first old.Kept there all = there
  at-back first (old.Moved m) there all = all.0

  -- the maps of the levels outside
  at-below : (first present : Map B) (level : Addr → ℕ) (stack : List (Save B)) → Everywhere first → Everywhere present → Each (saved stack) → EverywhereIn (below first present level stack)
  at-below first present level [] start here all = tt
  at-below first present level (save.Mark outer ∷ stack) start here all = (here, at-below first present level stack start here all)
  at-below first present level (save.Saved at o outer ∷ stack) start here all =
      let parts = each-append (moved o) (saved stack) all in
      let v : Meaning B = meaning_back (first at) o in
      let back : Everywhere (update present at v) = λ q. chosen P (same at q) v (present q) (at-back (first at) o (start at) parts.0) (here q) in
      chosen EverywhereIn (level at == 1) (below first present level stack) (below first (update present at v) (update level at outer) stack) (at-below first present level stack start here parts.1) (at-below first (update present at v) (update level at outer) stack start back parts.1)

  module _ (frozen : Map B) (t : Table B) (s : Saves B) (start : Everywhere frozen) (all : Each (all_held t s)) where
    in_table : Each (held t)
    in_table = (each-append (held t) (saved s.stack) all).0

    -- the map now
    pub at-now : Everywhere (now frozen t)
    at-now q = at-entry t.entries q (frozen q) (each-append (values_of t.entries) (kept t.journal) in_table).0 (start q)

    at-before : Everywhere (before frozen t)
    at-before q = at-noted t.journal q (frozen q) (now frozen t q) (each-append (values_of t.entries) (kept t.journal) in_table).1 (start q) (at-now q)

    pub at-outside : EverywhereIn (outside frozen t s)
    at-outside = at-below (before frozen t) (now frozen t) (level_at s.levels) s.stack at-before at-now (each-append (held t) (saved s.stack) all).1

abbrev one_if : Bool → ℕ
one_if b = cond b 1 0

-- whether a meaning has the pooled list with this number, as a number
abbrev counts_of : ℕ → Meaning BoxNode → ℕ
counts_of id m = one_if (is_number id (pooled_of m))

first-counted : (m : Meaning BoxNode) (ms : List (Meaning BoxNode)) (n : Option ℕ) → pooled_of m ≡ n → IfSome n (IsCountedIn (m ∷ ms))
first-counted m ms None is = tt
first-counted m ms (Some id) is =
    let one : counts_of id m ≡ 1 = ap (λ n. one_if (is_number id n)) is ∙ ap one_if (eq-eqb id id refl) in
    omega (arith, one, sum_by-cons (counts_of id) m ms)

-- what counts among some counts among more
more-held : (n : Option ℕ) (xs ys : List (Meaning BoxNode)) → ((id : ℕ) → counted id xs ≤ counted id ys) → IsHeldIn xs n → IsHeldIn ys n
more-held None xs ys le there = tt
more-held (Some id) xs ys le there = omega (arith, le id, there)

-- each of some meanings has a list that is counted among more meanings
each-counted : (whole ms : List (Meaning BoxNode)) → ((id : ℕ) → counted id ms ≤ counted id whole) → Each (λ m. IsHeldIn whole (pooled_of m)) ms
each-counted whole [] le = tt
each-counted whole (m ∷ ms) le = (
  more-held (pooled_of m) (m ∷ ms) whole le (first-counted m ms (pooled_of m) refl),
  each-counted whole ms (λ id. omega (arith, le id, sum_by-cons (counts_of id) m ms)),
)

-- each meaning that is held has a list that is held
pub all-counted : (ms : List (Meaning BoxNode)) → Each (λ m. IsHeldIn ms (pooled_of m)) ms
all-counted ms = each-counted ms ms (λ id. omega arith)

frozen-counted : (frozen : Map BoxNode) (ms : List (Meaning BoxNode)) → HasNoPooled frozen → Everywhere (λ m. IsHeldIn ms (pooled_of m)) frozen
frozen-counted frozen ms none at = subst (IsHeldIn ms) (sym (none at)) tt

-- a pooled list that the map now has is held
pub now-held : (frozen : Map BoxNode) (t : Table BoxNode) (s : Saves BoxNode) → HasNoPooled frozen → (at : Addr) → IsHeldIn (all_held t s) (pooled_of (now frozen t at))
now-held frozen t s none = at-now (λ m. IsHeldIn (all_held t s) (pooled_of m)) frozen t s (frozen-counted frozen (all_held t s) none) (all-counted (all_held t s))

-- a list that a meaning has is held where the meaning's is
pub held-list : (n o : Option ℕ) (ms : List (Meaning BoxNode)) → IfSome n (λ id. o ≡ Some id) → IsHeldIn ms o → IsHeldIn ms n
held-list None o ms is there = tt
held-list (Some id) o ms is there = subst (IsHeldIn ms) is there

-- equal counts, as sums
pub counts-assigned : (id : ℕ) (m : Meaning BoxNode) (out have left : List (Meaning BoxNode)) → SameCounts (m ∷ have) (out ++ left) → counted id (m ∷ []) + counted id have ≡ counted id out + counted id left
counts-assigned id m out have left same =
    omega (arith, same (λ x. is_number id (pooled_of x)), sum_by-cons (counts_of id) m [], sum_by-cons (counts_of id) m have, sum_by-append (counts_of id) out left)

pub counts-handed : (id : ℕ) (out have left : List (Meaning BoxNode)) → SameCounts have (out ++ left) → counted id have ≡ counted id out + counted id left
counts-handed id out have left same = same (λ x. is_number id (pooled_of x)) ∙ sum_by-append (counts_of id) out left
