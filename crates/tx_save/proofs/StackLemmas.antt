-- What the calls of a save stack do, from what they do to its parts.
use Rattle.std.proofs.Common.{◌≡◌, ◌≢◌, ℕ, ◌+◌, ◌<◌, ◌==◌, true, false, cond, List, [], ◌∷◌, ◌++◌, map, length, Option, None, Some, Result, Ok, Err, OnOk, IsSome, MatchBool, sum_by, if◌then◌else◌, refl, sym, ap, subst, ◌∙◌, true≢false, arith}
use Rattle.std.proofs.lemmas.List.Sums.{sum_by-cons, sum_by-append}
use Rattle.tx_eqtb.specs.declared.addr.Addr.{Addr}
use Rattle.tx_eqtb.specs.declared.meaning.Meaning.{Meaning}
use Rattle.tx_eqtb.specs.declared.meaning.Before.{Before}
use Rattle.tx_eqtb.specs.declared.meaning.Old.{Old}
use Rattle.tx_eqtb.specs.Addresses.{update}
use Rattle.tx_eqtb.specs.Meanings.{Map}
use Rattle.tx_eqtb.specs.Tables.{Table, entry, noted, now, before, held, SameCounts}
use Rattle.tx_eqtb.specs.Steps.{Sets, KeepsBefore, note, moved, meaning_back, note_back, Answered, GoesBack}
use Rattle.tx_save.specs.declared.save.Save.{Save}
use Rattle.tx_save.specs.declared.save.Save.TheVariants as save
use Rattle.tx_save.specs.Levels.{level_at}
use Rattle.tx_save.specs.Saves.{Saves, below, outside, saved, Fits, FitsAll, IsLeveled, ChangesOutside, Unsaves}
use Rattle.tx_save.proofs.UpdateLemmas.{match_cases, match_false, update-same, update-twice, update-self}
use Rattle.tx_save.proofs.SaveLemmas.{eqb-no, below-global, fits-global, below-again, noted-again, below-closed}

pub on_ok_map : {T E P Q : Type 0} (r : Result T E) → (P → Q) → OnOk r P → OnOk r Q
on_ok_map (Ok x) f h = f h
on_ok_map (Err e) f h = h

module _ {B : Type 0} where
  -- the levels of a stack are in order
  abbrev pub Leveled : Saves B → Type 0
  Leveled s = IsLeveled s.level (level_at s.levels) s.stack

  pub leveled_moved : (d : ℕ) (level over : Addr → ℕ) (k : List (Save B)) → ((q : Addr) → over q ≡ level q) → IsLeveled d level k → IsLeveled d over k
  leveled_moved d level over k all h =
      let is : level ≡ over = λ i q. sym (all q) i in
      subst (λ f. IsLeveled d f k) is h

  -- the journal after an assignment
  abbrev pub Notes : Table B → Addr → Table B → Type 0
  Notes t at u = (q : Addr) → noted u q ≡ update (noted t) at (Some (note (noted t at) (entry t at))) q

  pub outside-global : (t u : Table B) (s n : Saves B) (at : Addr) (m : Meaning B) → Sets t at m u → KeepsBefore t u → n.stack ≡ s.stack → ((q : Addr) → level_at n.levels q ≡ update (level_at s.levels) at 1 q) → ChangesOutside true at m t s u n
  outside-global t u s n at m sets keeps stack levels frozen =
      let step : outside frozen u n ≡ below (before frozen t) (update (now frozen t) at m) (update (level_at s.levels) at 1) s.stack = λ i. below (λ q. keeps frozen q i) (λ q. sets frozen q i) (λ q. levels q i) (stack i) in
      step ∙ below-global (before frozen t) (now frozen t) (level_at s.levels) at m s.stack

  fits_moved : (says says2 : Addr → Option (Before B)) (level level2 : Addr → ℕ) (k k2 : List (Save B)) → ((q : Addr) → says2 q ≡ says q) → ((q : Addr) → level2 q ≡ level q) → k2 ≡ k → FitsAll says level k → FitsAll says2 level2 k2
  fits_moved says says2 level level2 k k2 a b c h =
      let says_is : says ≡ says2 = λ i q. sym (a q) i in
      let level_is : level ≡ level2 = λ i q. sym (b q) i in
      subst (λ l. FitsAll says2 level2 l) (sym c) (subst (λ f. FitsAll says2 f k) level_is (subst (λ f. FitsAll f level k) says_is h))

  pub fits-everywhere : (t u : Table B) (s n : Saves B) (at : Addr) → Notes t at u → n.stack ≡ s.stack → ((q : Addr) → level_at n.levels q ≡ update (level_at s.levels) at 1 q) → Fits t s → Fits u n
  fits-everywhere t u s n at notes stack levels h =
      let x : Option (Before B) = Some (note (noted t at) (entry t at)) in
      fits_moved (update (noted t) at x) (noted u) (update (level_at s.levels) at 1) (level_at n.levels) s.stack n.stack notes levels stack (fits-global (noted t) (level_at s.levels) at x s.stack h)

  pub held-handed : (t u : Table B) (k j : List (Save B)) (m : Meaning B) (o : Old B) (out : List (Meaning B)) → SameCounts (m ∷ held t) (moved o ++ held u) → out ≡ moved o → j ≡ k → SameCounts (m ∷ (held t ++ saved k)) (out ++ (held u ++ saved j))
  held-handed t u k j m o out set is stack test =
      let w : Meaning B → ℕ = λ x. cond (test x) 1 0 in
      omega (arith, set test, ap (sum_by w) is, ap (λ l. sum_by w (saved l)) stack, sum_by-cons w m (held t), sum_by-cons w m (held t ++ saved k), sum_by-append w (held t) (saved k), sum_by-append w (moved o) (held u), sum_by-append w out (held u ++ saved j), sum_by-append w (held u) (saved j))

  pub outside-again : (t u : Table B) (s : Saves B) (at : Addr) (m : Meaning B) → Leveled s → level_at s.levels at ≡ s.level → 1 < s.level → Sets t at m u → KeepsBefore t u → ChangesOutside false at m t s u s
  outside-again t u s at m leveled e lt sets keeps frozen =
      let step : outside frozen u s ≡ below (before frozen t) (update (now frozen t) at m) (level_at s.levels) s.stack = λ i. below (λ q. keeps frozen q i) (λ q. sets frozen q i) (level_at s.levels) s.stack in
      step ∙ below-again s.level (before frozen t) (now frozen t) (level_at s.levels) at m s.stack leveled e lt

  some_note : (n : Option (Before B)) (e : Option (Meaning B)) → IsSome n → n ≡ Some (note n e)
  some_note None e h = absurd (true≢false (sym h))
  some_note (Some b) e h = refl

  pub fits-again : (t u : Table B) (s : Saves B) (at : Addr) → Leveled s → level_at s.levels at ≡ s.level → 1 < s.level → Notes t at u → Fits t s → Fits u s
  fits-again t u s at leveled e lt notes h =
      let there = some_note (noted t at) (entry t at) (noted-again s.level (noted t) (level_at s.levels) at s.stack leveled h e lt) in
      let x : Option (Before B) = Some (note (noted t at) (entry t at)) in
      let self = update-self (noted t) at x there in
      fits_moved (noted t) (noted u) (level_at s.levels) (level_at s.levels) s.stack s.stack (λ q. notes q ∙ ap (λ f. f q) self) (λ q. refl) refl h

  pub outside-outermost : (t u : Table B) (s n : Saves B) (at : Addr) (m : Meaning B) → Leveled s → s.level ≡ 1 → ChangesOutside true at m t s u n → ChangesOutside false at m t s u n
  outside-outermost t u s n at m leveled e h frozen =
      let none : outside frozen t s ≡ [] = below-closed s.level (before frozen t) (now frozen t) (level_at s.levels) s.stack leveled e in
      h frozen ∙ ap (λ l. map (λ f. update f at m) l) none ∙ sym none

  module _ (t u : Table B) (at : Addr) (m : Meaning B) (o : Old B) (d was : ℕ) (level over : Addr → ℕ) (k j l : List (Save B)) (ne : d ≢ 1) (is : was ≡ level at) (levels : (q : Addr) → over q ≡ update level at d q) (room : j ≡ k) (pushed : l ≡ save.Saved at o was ∷ j) (back : GoesBack t at o u) where
    not_global : (update level at d at == 1) ≡ false
    not_global = ap (λ n. n == 1) (update-same level at d) ∙ eqb-no d ne

    level_back : update (update level at d) at was ≡ level
    level_back = update-twice level at d was ∙ update-self level at was (sym is)

    shape : l ≡ save.Saved at o was ∷ k
    shape = pushed ∙ ap (λ x. save.Saved at o was ∷ x) room

    pub outside-within : Sets t at m u → KeepsBefore t u → (frozen : Map B) → below (before frozen u) (now frozen u) over l ≡ below (before frozen t) (now frozen t) level k
    outside-within sets keeps frozen =
        let first : Map B = before frozen t in
        let v : Meaning B = meaning_back (first at) o in
        let moved_to : below (before frozen u) (now frozen u) over l ≡ below first (update (now frozen t) at m) (update level at d) (save.Saved at o was ∷ k) = λ i. below (λ q. keeps frozen q i) (λ q. sets frozen q i) (λ q. levels q i) (shape i) in
        let now_back : update (update (now frozen t) at m) at v ≡ now frozen t = update-twice (now frozen t) at m v ∙ update-self (now frozen t) at v (sym (back.3 frozen)) in
        moved_to
        ∙ ap (λ c. if c then below first (update (now frozen t) at m) (update level at d) k else below first (update (update (now frozen t) at m) at v) (update (update level at d) at was) k) not_global
        ∙ (λ i. below first (now_back i) (level_back i) k)

    pub fits-within : Notes t at u → FitsAll (noted t) level k → FitsAll (noted u) over l
    fits-within notes h =
        let x : Option (Before B) = Some (note (noted t at) (entry t at)) in
        let b : Option (Before B) = note_back (noted u at) o in
        let says_is : noted u ≡ update (noted t) at x = λ i q. notes q i in
        let says_back : update (noted u) at b ≡ noted t = ap (λ f. update f at b) says_is ∙ update-twice (noted t) at x b ∙ update-self (noted t) at b (sym back.1) in
        let inner : FitsAll (update (noted u) at b) (update (update level at d) at was) k = subst (λ f. FitsAll f (update (update level at d) at was) k) (sym says_back) (subst (λ f. FitsAll (noted t) f k) (sym level_back) h) in
        fits_moved (noted u) (noted u) (update level at d) over (save.Saved at o was ∷ k) l (λ q. refl) levels shape (match_false _ _ _ not_global (back.0, inner))

    pub held-within : SameCounts (m ∷ held t) (moved o ++ held u) → SameCounts (m ∷ (held t ++ saved k)) (held u ++ saved l)
    held-within set test =
        let w : Meaning B → ℕ = λ x. cond (test x) 1 0 in
        omega (arith, set test, ap (λ x. sum_by w (saved x)) shape, sum_by-cons w m (held t), sum_by-cons w m (held t ++ saved k), sum_by-append w (held t) (saved k), sum_by-append w (moved o) (held u), sum_by-append w (moved o) (saved k), sum_by-append w (held u) (saved l))

  module _ (t u : Table B) (at : Addr) (o : Old B) (was : ℕ) (level over : Addr → ℕ) (k j : List (Save B)) (popped : k ≡ save.Saved at o was ∷ j) where
    pub outside-closed : Unsaves t level at o was u over → KeepsBefore t u → (frozen : Map B) → below (before frozen u) (now frozen u) over j ≡ below (before frozen t) (now frozen t) level k
    outside-closed done keeps frozen =
        let first : Map B = before frozen t in
        let v : Meaning B = meaning_back (first at) o in
        let there : below first (now frozen t) level k ≡ (if level at == 1 then below first (now frozen t) level j else below first (update (now frozen t) at v) (update level at was) j) = ap (below first (now frozen t) level) popped in
        match_cases (level at == 1)
        (λ z p. (λ i. below (before frozen (p.0 i)) (now frozen (p.0 i)) (λ q. p.1 q i) j) ∙ sym (there ∙ ap (λ c. if c then below first (now frozen t) level j else below first (update (now frozen t) at v) (update level at was) j) z))
        (λ z p. (λ i. below (λ q. keeps frozen q i) (λ q. p.0 frozen q i) (λ q. p.2 q i) j) ∙ sym (there ∙ ap (λ c. if c then below first (now frozen t) level j else below first (update (now frozen t) at v) (update level at was) j) z)) done

    pub fits-closed : Unsaves t level at o was u over → FitsAll (noted t) level k → FitsAll (noted u) over j
    fits-closed done h =
        let b : Option (Before B) = note_back (noted t at) o in
        let g : MatchBool (level at == 1) (FitsAll (noted t) level j) (Answered (noted t at) o × FitsAll (update (noted t) at b) (update level at was) j) = subst (FitsAll (noted t) level) popped h in
        match_cases (level at == 1)
        (λ z p. fits_moved (noted t) (noted u) level over j j (λ q i. noted (p.0 i) q) p.1 refl (subst (λ c. MatchBool c (FitsAll (noted t) level j) (Answered (noted t at) o × FitsAll (update (noted t) at b) (update level at was) j)) z g))
        (λ z p. fits_moved (update (noted t) at b) (noted u) (update level at was) over j j p.1 p.2 refl (subst (λ c. MatchBool c (FitsAll (noted t) level j) (Answered (noted t at) o × FitsAll (update (noted t) at b) (update level at was) j)) z g).1) done

    pub held-closed : (out : List (Meaning B)) → SameCounts (moved o ++ held t) (out ++ held u) → SameCounts (held t ++ saved k) (out ++ (held u ++ saved j))
    held-closed out done test =
        let w : Meaning B → ℕ = λ x. cond (test x) 1 0 in
        omega (arith, done test, ap (λ x. sum_by w (saved x)) popped, sum_by-append w (held t) (saved k), sum_by-append w (moved o) (held t), sum_by-append w (moved o) (saved j), sum_by-append w out (held u), sum_by-append w out (held u ++ saved j), sum_by-append w (held u) (saved j))

    pub length-closed : length k ≡ length j + 1
    length-closed = omega (arith, ap length popped)

  pub not_empty : (d e : ℕ) (level : Addr → ℕ) (k : List (Save B)) → IsLeveled d level k → d ≡ e → 1 < e → k ≡ [] → ⊥
  not_empty d e level k h is lt none = omega (arith, (subst (IsLeveled d level) none h).0, is, lt)
