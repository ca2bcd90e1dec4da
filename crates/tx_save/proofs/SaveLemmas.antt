-- What assignments do to the maps of the levels outside, and to what is saved.
use Rattle.std.proofs.Common.{◌≡◌, ◌≢◌, ℕ, ◌+◌, ◌-◌, ◌<◌, ◌≤◌, ◌==◌, true, false, List, [], ◌∷◌, map, Option, None, Some, is_some, IsSome, MatchBool, if◌then◌else◌, refl, sym, ap, subst, ◌∙◌, true≢false, arith}
use Rattle.tx_eqtb.specs.declared.addr.Addr.{Addr}
use Rattle.tx_eqtb.specs.declared.meaning.Meaning.{Meaning}
use Rattle.tx_eqtb.specs.declared.meaning.Before.{Before}
use Rattle.tx_eqtb.specs.declared.meaning.Old.{Old}
use Rattle.tx_eqtb.specs.declared.meaning.Old.TheVariants as old
use Rattle.tx_eqtb.specs.Addresses.{same, update}
use Rattle.tx_eqtb.specs.Meanings.{Map}
use Rattle.tx_eqtb.specs.Steps.{meaning_back, note_back, Answered}
use Rattle.tx_eqtb.proofs.AddressLemmas.{same-equal}
use Rattle.std.proofs.lemmas.Bool.{eqb-true}
use Rattle.tx_save.specs.declared.group.Group.{Group}
use Rattle.tx_save.specs.declared.save.Save.{Save}
use Rattle.tx_save.specs.declared.save.Save.TheVariants as save
use Rattle.std.specs.List.{slice_get}
use Rattle.tx_save.specs.Saves.{below, groups_of, FitsAll, IsLeveled}
use Rattle.tx_save.proofs.UpdateLemmas.{by_answer, match_cases, match_true, match_false, update-same, update-other, update-twice, update-self, update-comm}

pub eqb-no : (n : ℕ) → n ≢ 1 → (n == 1) ≡ false
eqb-no n ne = by_answer (n == 1) (λ y. absurd (ne (eqb-true n 1 y))) (λ f. f)

module _ {B : Type 0} where
  -- a global assignment changes the maps of all levels
  pub below-global : (first now : Map B) (level : Addr → ℕ) (at : Addr) (m : Meaning B) (s : List (Save B)) → below first (update now at m) (update level at 1) s ≡ map (λ f. update f at m) (below first now level s)
  below-global first now level at m [] = refl
  below-global first now level at m (save.Mark outer ∷ s) = ap (λ l. update now at m ∷ l) (below-global first now level at m s)
  below-global first now level at m (save.Saved a was outer ∷ s) =
      let v : Meaning B = meaning_back (first a) was in
      let to : List (Map B) → List (Map B) = map (λ f. update f at m) in
      let dead = below-global first now level at m s in
      let live = below-global first (update now a v) (update level a outer) at m s in
      by_answer (same at a)
      (λ y.
      let is = same-equal at a y in
      let one : update level at 1 a ≡ 1 = ap (λ r. update level at 1 r) (sym is) ∙ update-same level at 1 in
      let merged : below first (update (update now a v) at m) (update (update level a outer) at 1) s ≡ below first (update now at m) (update level at 1) s = λ i. below first ((ap (λ r. update (update now r v) at m) (sym is) ∙ update-twice now at v m) i) ((ap (λ r. update (update level r outer) at 1) (sym is) ∙ update-twice level at outer 1) i) s in
      ap (λ n. if n == 1 then below first (update now at m) (update level at 1) s else below first (update (update now at m) a v) (update (update level at 1) a outer) s) one
      ∙ by_answer (level a == 1)
      (λ z. dead ∙ ap (λ c. to (if c then below first now level s else below first (update now a v) (update level a outer) s)) (sym z))
      (λ z. sym merged ∙ live ∙ ap (λ c. to (if c then below first now level s else below first (update now a v) (update level a outer) s)) (sym z)))
      (λ n.
      let other : update level at 1 a ≡ level a = update-other level at a 1 n in
      let swapped : below first (update (update now at m) a v) (update (update level at 1) a outer) s ≡ below first (update (update now a v) at m) (update (update level a outer) at 1) s = λ i. below first (update-comm now at a m v n i) (update-comm level at a 1 outer n i) s in
      ap (λ k. if k == 1 then below first (update now at m) (update level at 1) s else below first (update (update now at m) a v) (update (update level at 1) a outer) s) other
      ∙ by_answer (level a == 1)
      (λ z. ap (λ c. if c then below first (update now at m) (update level at 1) s else below first (update (update now at m) a v) (update (update level at 1) a outer) s) z ∙ dead ∙ ap (λ c. to (if c then below first now level s else below first (update now a v) (update level a outer) s)) (sym z))
      (λ z. ap (λ c. if c then below first (update now at m) (update level at 1) s else below first (update (update now at m) a v) (update (update level at 1) a outer) s) z ∙ swapped ∙ live ∙ ap (λ c. to (if c then below first now level s else below first (update now a v) (update level a outer) s)) (sym z)))

  -- and what is saved still goes back
  pub fits-global : (says : Addr → Option (Before B)) (level : Addr → ℕ) (at : Addr) (x : Option (Before B)) (s : List (Save B)) → FitsAll says level s → FitsAll (update says at x) (update level at 1) s
  fits-global says level at x [] h = tt
  fits-global says level at x (save.Mark outer ∷ s) h = fits-global says level at x s h
  fits-global says level at x (save.Saved a was outer ∷ s) h =
      let b : Option (Before B) = note_back (says a) was in
      by_answer (same at a)
      (λ y.
      let is = same-equal at a y in
      let one : (update level at 1 a == 1) ≡ true = ap (λ r. update level at 1 r == 1) (sym is) ∙ ap (λ n. n == 1) (update-same level at 1) in
      match_true _ _ _ one (match_cases (level a == 1) (λ z p. fits-global says level at x s p) (λ z p. subst (λ f. FitsAll f (update level at 1) s) (ap (λ r. update (update says r b) at x) (sym is) ∙ update-twice says at b x) (subst (λ f. FitsAll (update (update says a b) at x) f s) (ap (λ r. update (update level r outer) at 1) (sym is) ∙ update-twice level at outer 1) (fits-global (update says a b) (update level a outer) at x s p.1))) h))
      (λ n.
      let other : (update level at 1 a == 1) ≡ (level a == 1) = ap (λ k. k == 1) (update-other level at a 1 n) in
      let there : says a ≡ update says at x a = sym (update-other says at a x n) in
      match_cases (level a == 1) (λ z p. match_true _ _ _ (other ∙ z) (fits-global says level at x s p)) (λ z p. match_false _ _ _ (other ∙ z) (
        subst (λ t. Answered t was) there p.0,
        subst (λ t. FitsAll (update (update says at x) a (note_back t was)) (update (update level at 1) a outer) s) there (subst (λ f. FitsAll f (update (update level at 1) a outer) s) (sym (update-comm says at a x b n)) (subst (λ f. FitsAll (update (update says a b) at x) f s) (sym (update-comm level at a 1 outer n)) (fits-global (update says a b) (update level a outer) at x s p.1))),
      )) h)

  -- and the levels stay in order
  pub leveled-global : (d : ℕ) (level : Addr → ℕ) (at : Addr) (s : List (Save B)) → IsLeveled d level s → IsLeveled d (update level at 1) s
  leveled-global d level at [] h = (h.0, λ q. by_answer (same at q) (λ y. ap (λ c. if c then 1 else level q) y) (λ n. ap (λ c. if c then 1 else level q) n ∙ h.1 q))
  leveled-global d level at (save.Mark outer ∷ s) h = (h.0, leveled-global (d - 1) level at s h.1)
  leveled-global d level at (save.Saved a was outer ∷ s) h = by_answer (same at a)
      (λ y.
      let is = same-equal at a y in
      let one : (update level at 1 a == 1) ≡ true = ap (λ r. update level at 1 r == 1) (sym is) ∙ ap (λ n. n == 1) (update-same level at 1) in
      match_true _ _ _ one (match_cases (level a == 1) (λ z p. leveled-global d level at s p) (λ z p. subst (λ f. IsLeveled d f s) (ap (λ r. update (update level r outer) at 1) (sym is) ∙ update-twice level at outer 1) (leveled-global d (update level a outer) at s p.1)) h))
      (λ n.
      let other = update-other level at a 1 n in
      match_cases (level a == 1) (λ z p. match_true _ _ _ (ap (λ k. k == 1) other ∙ z) (leveled-global d level at s p)) (λ z p. match_false _ _ _ (ap (λ k. k == 1) other ∙ z) (other ∙ p.0, subst (λ f. IsLeveled d f s) (sym (update-comm level at a 1 outer n)) (leveled-global d (update level a outer) at s p.1))) h)

  -- no level is above the present one
  pub level-le : (d : ℕ) (level : Addr → ℕ) (at : Addr) (s : List (Save B)) → IsLeveled d level s → level at ≤ d
  level-le d level at [] h = omega (arith, h.0, h.1 at)
  level-le d level at (save.Mark outer ∷ s) h = omega (arith, h.0, level-le (d - 1) level at s h.1)
  level-le d level at (save.Saved a was outer ∷ s) h =
      match_cases (level a == 1) (λ z p. level-le d level at s p) (λ z p. by_answer (same a at)
      (λ y. omega (arith, p.0, ap level (same-equal a at y)))
      (λ n. omega (arith, update-other level a at outer n, level-le d (update level a outer) at s p.1))) h

  pub depth-pos : (d : ℕ) (level : Addr → ℕ) (s : List (Save B)) → IsLeveled d level s → 0 < d
  depth-pos d level [] h = omega (arith, h.0)
  depth-pos d level (save.Mark outer ∷ s) h = omega (arith, h.0)
  depth-pos d level (save.Saved a was outer ∷ s) h = match_cases (level a == 1) (λ z p. depth-pos d level s p) (λ z p. depth-pos d (update level a outer) s p.1) h

  -- a group begins
  pub leveled-begun : (d : ℕ) (level : Addr → ℕ) (outer : Group) (s t u : List (Save B)) → IsLeveled d level s → t ≡ s → u ≡ save.Mark outer ∷ t → IsLeveled (d + 1) level u
  leveled-begun d level outer s t u h same pushed =
      let lt : 1 < d + 1 = omega (arith, depth-pos d level s h) in
      let back : d + 1 - 1 ≡ d = omega arith in
      subst (λ l. IsLeveled (d + 1) level l) (sym (pushed ∙ ap (λ l. save.Mark outer ∷ l) same)) (lt, subst (λ n. IsLeveled n level s) (sym back) h)

  -- a local assignment saves what it replaces
  pub leveled-saved : (d : ℕ) (level over : Addr → ℕ) (at : Addr) (o : Old B) (was : ℕ) (s t u : List (Save B)) → IsLeveled d level s → d ≢ 1 → was ≡ level at → ((q : Addr) → over q ≡ update level at d q) → t ≡ s → u ≡ save.Saved at o was ∷ t → IsLeveled d over u
  leveled-saved d level over at o was s t u h ne is all same pushed =
      let over_is : update level at d ≡ over = λ i q. sym (all q) i in
      let own : update level at d at ≡ d = update-same level at d in
      let no : (update level at d at == 1) ≡ false = ap (λ n. n == 1) own ∙ eqb-no d ne in
      let back : level ≡ update (update level at d) at was = sym (update-twice level at d was ∙ update-self level at was (sym is)) in
      subst (λ f. IsLeveled d f u) over_is (subst (λ l. IsLeveled d (update level at d) l) (sym (pushed ∙ ap (λ l. save.Saved at o was ∷ l) same)) (match_false _ _ _ no (own, subst (λ f. IsLeveled d f s) back h)))

  -- an assignment at the level of what it replaces leaves the maps outside
  pub below-again : (d : ℕ) (first now : Map B) (level : Addr → ℕ) (at : Addr) (m : Meaning B) (s : List (Save B)) → IsLeveled d level s → level at ≡ d → 1 < d → below first (update now at m) level s ≡ below first now level s
  below-again d first now level at m [] h e lt = refl
  below-again d first now level at m (save.Mark outer ∷ s) h e lt = absurd (omega (arith, h.0, e, level-le (d - 1) level at s h.1))
  below-again d first now level at m (save.Saved a was outer ∷ s) h e lt =
      let v : Meaning B = meaning_back (first a) was in
      match_cases (level a == 1)
      (λ z p. ap (λ c. if c then below first (update now at m) level s else below first (update (update now at m) a v) (update level a outer) s) z ∙ below-again d first now level at m s p e lt ∙ ap (λ c. if c then below first now level s else below first (update now a v) (update level a outer) s) (sym z))
      (λ z p.
      let changed : below first (update (update now at m) a v) (update level a outer) s ≡ below first (update now a v) (update level a outer) s = by_answer (same a at)
      (λ y. ap (λ f. below first f (update level a outer) s) (ap (λ r. update (update now r m) a v) (sym (same-equal a at y)) ∙ update-twice now a m v))
      (λ n. ap (λ f. below first f (update level a outer) s) (sym (update-comm now a at v m n)) ∙ below-again d first (update now a v) (update level a outer) at m s p.1 (update-other level a at outer n ∙ e) lt) in
      ap (λ c. if c then below first (update now at m) level s else below first (update (update now at m) a v) (update level a outer) s) z ∙ changed ∙ ap (λ c. if c then below first now level s else below first (update now a v) (update level a outer) s) (sym z)) h

  answered_noted : (n : Option (Before B)) (o : Old B) → Answered n o → IsSome n
  answered_noted None old.Frozen h = ap is_some h
  answered_noted None old.Kept h = h
  answered_noted None (old.Moved m) h = h
  answered_noted (Some b) o h = refl

  -- and its address is in the journal
  pub noted-again : (d : ℕ) (says : Addr → Option (Before B)) (level : Addr → ℕ) (at : Addr) (s : List (Save B)) → IsLeveled d level s → FitsAll says level s → level at ≡ d → 1 < d → IsSome (says at)
  noted-again d says level at [] h f e lt = absurd (omega (arith, h.0, lt))
  noted-again d says level at (save.Mark outer ∷ s) h f e lt = absurd (omega (arith, h.0, e, level-le (d - 1) level at s h.1))
  noted-again d says level at (save.Saved a was outer ∷ s) h f e lt =
      match_cases (level a == 1)
      (λ z p. noted-again d says level at s p (subst (λ c. MatchBool c (FitsAll says level s) (Answered (says a) was × FitsAll (update says a (note_back (says a) was)) (update level a outer) s)) z f) e lt)
      (λ z p.
      let g = subst (λ c. MatchBool c (FitsAll says level s) (Answered (says a) was × FitsAll (update says a (note_back (says a) was)) (update level a outer) s)) z f in
      by_answer (same a at)
      (λ y. ap (λ r. is_some (says r)) (sym (same-equal a at y)) ∙ answered_noted (says a) was g.0)
      (λ n. ap is_some (sym (update-other says a at (note_back (says a) was) n)) ∙ noted-again d (update says a (note_back (says a) was)) (update level a outer) at s p.1 g.1 (update-other level a at outer n ∙ e) lt)) h

  -- outside all groups there is no map but the present one
  pub below-closed : (d : ℕ) (first now : Map B) (level : Addr → ℕ) (s : List (Save B)) → IsLeveled d level s → d ≡ 1 → below first now level s ≡ []
  below-closed d first now level [] h e = refl
  below-closed d first now level (save.Mark outer ∷ s) h e = absurd (omega (arith, h.0, e))
  below-closed d first now level (save.Saved a was outer ∷ s) h e =
      let v : Meaning B = meaning_back (first a) was in
      match_cases (level a == 1)
      (λ z p. ap (λ c. if c then below first now level s else below first (update now a v) (update level a outer) s) z ∙ below-closed d first now level s p e)
      (λ z p. ap (λ c. if c then below first now level s else below first (update now a v) (update level a outer) s) z ∙ below-closed d first (update now a v) (update level a outer) s p.1 e) h

  -- and what is saved there goes back into any table
  pub fits-outermost : (d : ℕ) (says : Addr → Option (Before B)) (level : Addr → ℕ) (s : List (Save B)) → IsLeveled d level s → d ≡ 1 → FitsAll says level s
  fits-outermost d says level [] h e = tt
  fits-outermost d says level (save.Mark outer ∷ s) h e = absurd (omega (arith, h.0, e))
  fits-outermost d says level (save.Saved a was outer ∷ s) h e =
      match_cases (level a == 1) (λ z p. match_true _ _ _ z (fits-outermost d says level s p e)) (λ z p. absurd (true≢false (sym (ap (λ n. n == 1) (p.0 ∙ e)) ∙ z))) h

  -- no group is open at level 1
  pub groups-outermost : (d : ℕ) (level : Addr → ℕ) (group : Group) (s : List (Save B)) → IsLeveled d level s → d ≡ 1 → groups_of group s ≡ []
  groups-outermost d level group [] h e = refl
  groups-outermost d level group (save.Mark outer ∷ s) h e = absurd (omega (arith, h.0, e))
  groups-outermost d level group (save.Saved a was outer ∷ s) h e =
      match_cases (level a == 1) (λ z p. groups-outermost d level group s p e) (λ z p. groups-outermost d (update level a outer) group s p.1 e) h

  -- above it the innermost one is the group that is filled now
  pub groups-innermost : (d : ℕ) (level : Addr → ℕ) (group : Group) (s : List (Save B)) → IsLeveled d level s → d ≢ 1 → slice_get (groups_of group s) 0 ≡ Some group
  groups-innermost d level group [] h ne = absurd (ne h.0)
  groups-innermost d level group (save.Mark outer ∷ s) h ne = refl
  groups-innermost d level group (save.Saved a was outer ∷ s) h ne =
      match_cases (level a == 1) (λ z p. groups-innermost d level group s p ne) (λ z p. groups-innermost d (update level a outer) group s p.1 ne) h
