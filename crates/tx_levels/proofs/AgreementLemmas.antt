-- Each call makes the same of both sides.
use Rattle.std.proofs.Common.{◌≡◌, ℕ, ℤ, Bool, true, false, List, [], ◌∷◌, map, length, ◌+◌, if◌then◌else◌, refl, sym, ap, subst, ◌∙◌, true≢false}
use Rattle.std.proofs.lemmas.List.{length-map}
use Rattle.tx_eqtb.specs.declared.addr.Addr.{Addr}
use Rattle.tx_eqtb.specs.declared.meaning.Meaning.TheVariants as meaning
use Rattle.tx_eqtb.specs.Addresses.{update}
use Rattle.tx_eqtb.specs.Meanings.{Map}
use Rattle.tx_eqtb.specs.Tables.{Table, now, before}
use Rattle.tx_eqtb.specs.Steps.{Sets, KeepsNow, KeepsBefore}
use Rattle.tx_save.specs.Saves.{Saves, outside, Fits, ChangesOutside}
use Rattle.tx_levels.specs.Wholes.{Whole, leads, changed}
use Rattle.tx_levels.specs.Levels.{Levels, assigned, kept, undone}
use Rattle.tx_levels.specs.Agreement.{Agrees}
use Rattle.tx_levels.proofs.WholeLemmas.{leads-changed, leads-all}

first_or : Map ℕ → List (Map ℕ) → Map ℕ
first_or d [] = d
first_or d (m ∷ ms) = m

behind : List (Map ℕ) → List (Map ℕ)
behind [] = []
behind (m ∷ ms) = ms

some_map : List (Map ℕ) → Bool
some_map [] = false
some_map (m ∷ ms) = true

module _ (t : Table ℕ) (s : Saves ℕ) (l : Levels) (agrees : Agrees t s l) (frozen : Map ℕ) where
  innermost-is : now frozen t ≡ leads l.innermost frozen
  unfolding first_or
  innermost-is = ap (first_or (now frozen t)) (agrees frozen).0

  outer-is : outside frozen t s ≡ map (λ whole. leads whole frozen) l.outer
  unfolding behind
  outer-is = ap behind (agrees frozen).0

outside-assigned : (global : Bool) (at : Addr) (n : ℤ) (wholes : List Whole) (frozen : Map ℕ) (out next : List (Map ℕ)) → out ≡ map (λ whole. leads whole frozen) wholes → next ≡ (if global then map (λ m. update m at (meaning.Int n)) out else out) → next ≡ map (λ whole. leads whole frozen) (if global then map (λ whole. changed whole at n) wholes else wholes)
outside-assigned true at n wholes frozen out next is step = step ∙ ap (map (λ m. update m at (meaning.Int n))) is ∙ sym (leads-all wholes at n frozen)
outside-assigned false at n wholes frozen out next is step = step ∙ is

pub agrees-assigned : (global : Bool) (at : Addr) (n : ℤ) (t u : Table ℕ) (s r : Saves ℕ) (l m : Levels) → Sets t at (meaning.Int n) u → KeepsBefore t u → ChangesOutside global at (meaning.Int n) t s u r → m ≡ assigned global at n l → Agrees t s l → Agrees u r m
agrees-assigned global at n t u s r l m sets keeps changes is agrees =
    let done : Agrees u r (assigned global at n l) = λ frozen.
    let here : now frozen u ≡ leads (changed l.innermost at n) frozen = (λ i q. sets frozen q i) ∙ ap (λ f. update f at (meaning.Int n)) (innermost-is t s l agrees frozen) ∙ sym (leads-changed l.innermost at n frozen) in
    let there = outside-assigned global at n l.outer frozen (outside frozen t s) (outside frozen u r) (outer-is t s l agrees frozen) (changes frozen) in
    let first : before frozen u ≡ before frozen t = λ i q. keeps frozen q i in
    (λ i. here i ∷ there i, first ∙ (agrees frozen).1) in
    subst (Agrees u r) (sym is) done

pub agrees-closed : (t u : Table ℕ) (s r : Saves ℕ) (l m : Levels) → KeepsBefore t u → ((frozen : Map ℕ) → outside frozen t s ≡ now frozen u ∷ outside frozen u r) → l.outer ≡ m.innermost ∷ m.outer → m.first ≡ l.first → Agrees t s l → Agrees u r m
agrees-closed t u s r l m keeps ends next same_first agrees frozen =
    let first : before frozen u ≡ before frozen t = λ i q. keeps frozen q i in (
      sym (ends frozen) ∙ outer-is t s l agrees frozen ∙ ap (map (λ whole. leads whole frozen)) next,
      first ∙ (agrees frozen).1 ∙ ap (λ whole. leads whole frozen) (sym same_first),
    )

-- where a group is open the list of whole maps has one outside
pub one-outside : (t u : Table ℕ) (s r : Saves ℕ) (l : Levels) → ((frozen : Map ℕ) → outside frozen t s ≡ now frozen u ∷ outside frozen u r) → Agrees t s l → l.outer ≡ [] → Map ℕ → ⊥
unfolding some_map
one-outside t u s r l ends agrees none frozen =
    true≢false (ap some_map (sym (ends frozen) ∙ outer-is t s l agrees frozen ∙ ap (map (λ whole. leads whole frozen)) none))

pub agrees-kept : (t u : Table ℕ) (s : Saves ℕ) (l m : Levels) → KeepsNow t u → ((frozen : Map ℕ) → before frozen u ≡ now frozen t) → ((frozen : Map ℕ) (table : Table ℕ) → outside frozen table s ≡ []) → m ≡ kept l → Agrees t s l → Agrees u s m
agrees-kept t u s l m keeps first alone is agrees =
    let done : Agrees u s (kept l) = λ frozen.
    let here : now frozen u ≡ leads l.innermost frozen = (λ i q. keeps frozen q i) ∙ innermost-is t s l agrees frozen in
    let there = alone frozen u ∙ sym (alone frozen t) ∙ outer-is t s l agrees frozen in
    (λ i. here i ∷ there i, first frozen ∙ innermost-is t s l agrees frozen) in
    subst (Agrees u s) (sym is) done

pub agrees-undone : (t u : Table ℕ) (s r : Saves ℕ) (l m : Levels) → ((frozen : Map ℕ) → now frozen u ≡ before frozen t) → KeepsBefore t u → ((frozen : Map ℕ) (table : Table ℕ) → outside frozen table r ≡ []) → m ≡ undone l → Agrees t s l → Agrees u r m
agrees-undone t u s r l m back keeps alone is agrees =
    let done : Agrees u r (undone l) = λ frozen.
    let first : before frozen u ≡ before frozen t = λ i q. keeps frozen q i in
    let here = back frozen ∙ (agrees frozen).1 in
    (λ i. here i ∷ alone frozen u i, first ∙ (agrees frozen).1) in
    subst (Agrees u r) (sym is) done

pub both-moved : (t u : Table ℕ) (s r : Saves ℕ) (l : Levels) → u ≡ t → r ≡ s → Fits t s × Agrees t s l × (s.level ≡ length l.outer + 1) → Fits u r × Agrees u r l × (r.level ≡ length l.outer + 1)
both-moved t u s r l there here h =
    subst (λ table. Fits table r × Agrees table r l × (r.level ≡ length l.outer + 1)) (sym there) (subst (λ saves. Fits t saves × Agrees t saves l × (saves.level ≡ length l.outer + 1)) (sym here) h)

-- an assignment leaves the number of levels
pub length-assigned : (global : Bool) (at : Addr) (n : ℤ) (l : Levels) → length (assigned global at n l).outer ≡ length l.outer
length-assigned true at n l = length-map l.outer (λ whole. changed whole at n)
length-assigned false at n l = refl
