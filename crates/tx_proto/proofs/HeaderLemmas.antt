-- What each state of a header stands for, and the bytes that no header goes on with.
use Rattle.std.proofs.Common.{◌≡◌, ◌≢◌, ℕ, ◌<◌, ◌≤◌, ◌^◌, inl, inr, List, [], ◌∷◌, ◌++◌, length, sym, ap, subst, ◌∙◌, arith, append_assoc}
use Rattle.std.specs.Fmt.{decimal}
use Rattle.std.proofs.lemmas.List.{append_cancel_left, append-nil}
use Rattle.tx_model.specs.Frames.{Request, IsLawful, frame, bye}
use Rattle.tx_proto.specs.Parts.{BeginsNone}
use Rattle.tx_proto.specs.Headers.{region, IsBudget, IsLength}
use Rattle.tx_proto.proofs.DecimalLemmas.{digits-meet, digit-meet}
use Rattle.tx_proto.proofs.FrameLemmas.{frame-parts, at-first, same-number}

-- What begins no frame and not BYE, given what its bytes are in each.
pub begins-none : (bytes : List ℕ) → ((r : Request) (more rest : List ℕ) → IsLawful r → bytes ++ more ≡ frame r ++ rest → ⊥) → ((more rest : List ℕ) → bytes ++ more ≡ bye ++ rest → ⊥) → BeginsNone bytes
begins-none bytes no_frame no_bye more whole rest (inl (r, lawful, is)) e = no_frame r more rest lawful (e ∙ ap (λ xs. xs ++ rest) is)
begins-none bytes no_frame no_bye more whole rest (inr is) e = no_bye more rest (e ∙ ap (λ xs. xs ++ rest) is)

-- behind REGION and its blank no BYE is
region-not-bye : (xs more rest : List ℕ) → (region ++ xs) ++ more ≡ bye ++ rest → ⊥
region-not-bye xs more rest e = let first : ◌≡◌ {A = ℕ} 82 66 = at-first ((region ++ xs) ++ more) (bye ++ rest) e in omega arith

-- bytes behind REGION and its blank that begin no frame
none-behind-region : (xs : List ℕ) → ((b l : ℕ) (more rest : List ℕ) → IsBudget b → IsLength l → xs ++ more ≡ decimal b ++ 32 ∷ (decimal l ++ 10 ∷ rest) → ⊥) → BeginsNone (region ++ xs)
none-behind-region xs none =
    begins-none (region ++ xs)
    (λ r more rest lawful e. none r.budget (length r.text) more (r.text ++ rest) (lawful.some_steps, lawful.few_steps) lawful.short
    (append_cancel_left region _ _ (sym (append_assoc region xs more) ∙ e ∙ frame-parts r rest)))
    (λ more rest e. region-not-bye xs more rest e)

-- the byte behind REGION and its blank is no digit, or is 0
pub no-budget : (c : ℕ) → ((n : ℕ) (z : List ℕ) → IsBudget n → decimal n ≡ c ∷ z → ⊥) → BeginsNone (region ++ c ∷ [])
no-budget c none = none-behind-region (c ∷ []) (λ b l more rest budget len e.
    let found = digit-meet b c 32 more (decimal l ++ 10 ∷ rest) (omega (arith, budget.1)) e in none b found.0 budget found.1)

-- the byte behind a budget's digits is no blank, and no budget begins with them and it
pub no-more-budget : (budget c : ℕ) → IsBudget budget → c ≢ 32 → ((n : ℕ) (z : List ℕ) → n ≤ 10000000 → decimal n ≡ decimal budget ++ c ∷ z → ⊥) → BeginsNone (region ++ decimal budget ++ c ∷ [])
no-more-budget budget c is other none =
    subst BeginsNone (sym (append_assoc region (decimal budget) (c ∷ []))) (none-behind-region (decimal budget ++ c ∷ []) (λ b l more rest lawful len e.
    elim (digits-meet budget b c 32 more (decimal l ++ 10 ∷ rest) (omega (arith, is.1)) (omega arith) (sym (append_assoc (decimal budget) (c ∷ []) more) ∙ e)) [
      | inl same ↦ other same.1
      | inr longer ↦ none b longer.0 lawful.1 longer.1
    ]))

regroup-budget : (d xs : List ℕ) (c : ℕ) → ((d ++ 32 ∷ []) ++ xs) ++ c ∷ [] ≡ d ++ 32 ∷ (xs ++ c ∷ [])
regroup-budget d xs c = simp append_assoc

behind-budget : (budget : ℕ) (xs : List ℕ) (c : ℕ) → region ++ (decimal budget ++ 32 ∷ (xs ++ c ∷ [])) ≡ (region ++ decimal budget ++ 32 ∷ [] ++ xs) ++ c ∷ []
behind-budget budget xs c = sym (ap (λ ys. region ++ ys) (regroup-budget (decimal budget) xs c))

-- the byte behind a budget is no digit
pub no-length : (budget c : ℕ) → ((n : ℕ) (z : List ℕ) → n < 2 ^ 32 → decimal n ≡ c ∷ z → ⊥) → IsBudget budget → BeginsNone ((region ++ decimal budget ++ 32 ∷ []) ++ c ∷ [])
no-length budget c none is =
    subst BeginsNone (behind-budget budget [] c ∙ ap (λ xs. xs ++ c ∷ []) (append-nil (region ++ decimal budget ++ 32 ∷ []))) (none-behind-region (decimal budget ++ 32 ∷ c ∷ []) (λ b l more rest lawful len e.
    let same = same-number budget b 32 (c ∷ more) (decimal l ++ 10 ∷ rest) (omega (arith, is.1)) (omega (arith, lawful.1)) (omega arith) (sym (append_assoc (decimal budget) (32 ∷ c ∷ []) more) ∙ e) in
    let found = digit-meet l c 10 more rest (omega (arith, len)) same.1 in
    none l found.0 (omega (arith, len)) found.1))

-- the byte behind a length's digits is no byte 10, and no length begins with them and it
pub no-more-length : (budget len c : ℕ) → IsBudget budget → IsLength len → c ≢ 10 → ((n : ℕ) (z : List ℕ) → n ≤ 1048576 → decimal n ≡ decimal len ++ c ∷ z → ⊥) → BeginsNone ((region ++ decimal budget ++ 32 ∷ [] ++ decimal len) ++ c ∷ [])
no-more-length budget len c is short other none =
    subst BeginsNone (behind-budget budget (decimal len) c) (none-behind-region (decimal budget ++ 32 ∷ (decimal len ++ c ∷ [])) (λ b l more rest lawful also e.
    let same = same-number budget b 32 ((decimal len ++ c ∷ []) ++ more) (decimal l ++ 10 ∷ rest) (omega (arith, is.1)) (omega (arith, lawful.1)) (omega arith)
    (sym (append_assoc (decimal budget) (32 ∷ (decimal len ++ c ∷ [])) more) ∙ e)
    in
    elim (digits-meet len l c 10 more rest (omega (arith, short)) (omega arith) (sym (append_assoc (decimal len) (c ∷ []) more) ∙ same.1)) [
      | inl found ↦ other found.1
      | inr longer ↦ none l longer.0 also longer.1
    ]))
