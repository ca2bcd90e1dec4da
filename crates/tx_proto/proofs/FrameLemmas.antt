-- Frames and BYE: which bytes can begin them, and that none begins another one.
use Rattle.std.proofs.Common.{◌≡◌, ℕ, ◌<◌, ◌^◌, inl, inr, List, [], ◌∷◌, ◌++◌, length, length-append, get_or, refl, sym, ap, ◌∙◌, arith, append_assoc}
use Rattle.std.specs.Fmt.{decimal}
use Rattle.std.proofs.lemmas.Fmt.{decimal_injective}
use Rattle.std.proofs.lemmas.List.{append_cancel_left, append-nil}
use Rattle.tx_model.specs.Frames.{Request, IsLawful, frame, bye}
use Rattle.tx_proto.specs.Parts.{IsFrameOrBye, IsPart, IsProperPart}
use Rattle.tx_proto.specs.Headers.{region}
use Rattle.tx_proto.proofs.DecimalLemmas.{digits-meet, begins-more}

regroup : (d l t x : List ℕ) → ((((d ++ 32 ∷ []) ++ l) ++ 10 ∷ []) ++ t) ++ x ≡ d ++ 32 ∷ (l ++ 10 ∷ (t ++ x))
regroup d l t x = simp append_assoc

-- a frame and what follows, part by part
pub frame-parts : (r : Request) (x : List ℕ) → frame r ++ x ≡ region ++ (decimal r.budget ++ 32 ∷ (decimal (length r.text) ++ 10 ∷ (r.text ++ x)))
frame-parts r x = ap (λ ys. region ++ ys) (regroup (decimal r.budget) (decimal (length r.text)) r.text x)

-- two numbers before the same byte below the digits
pub same-number : (m n s : ℕ) (x y : List ℕ) → m < 2 ^ 32 → n < 2 ^ 32 → s < 48 → decimal m ++ s ∷ x ≡ decimal n ++ s ∷ y → (m ≡ n) × (x ≡ y)
same-number m n s x y small less below e =
    elim (digits-meet m n s s x y (omega arith) below e) [
      | inl same ↦ (decimal_injective m n (omega arith) (omega arith) same.0, same.2)
      | inr longer ↦ let more = begins-more m n s longer.0 small less longer.1 in absurd (omega arith)
    ]

same-texts : (t u a b : List ℕ) → length t ≡ length u → t ++ a ≡ u ++ b → (t ≡ u) × (a ≡ b)
same-texts [] [] a b h e = (refl, e)
same-texts [] (y ∷ u) a b h e = absurd (omega arith)
same-texts (x ∷ t) [] a b h e = absurd (omega arith)
same-texts (x ∷ t) (y ∷ u) a b h e =
    let rest : t ++ a ≡ u ++ b = cc in
    let head : x ≡ y = cc in
    let same = same-texts t u a b (omega arith) rest in
    (cc, same.1)

same-request : (r s : Request) → r.budget ≡ s.budget → r.text ≡ s.text → r ≡ s
same-request r s budget text = ap (λ b. record { budget = b; text = r.text }) budget ∙ ap (λ t. record { budget = s.budget; text = t }) text

-- two frames that begin the same bytes are the same
pub one-frame : (r s : Request) (a b : List ℕ) → IsLawful r → IsLawful s → frame r ++ a ≡ frame s ++ b → (r ≡ s) × (a ≡ b)
one-frame r s a b first second e =
    let parts = append_cancel_left region _ _ (sym (frame-parts r a) ∙ e ∙ frame-parts s b) in
    let budgets = same-number r.budget s.budget 32 _ _ (omega (arith, first.few_steps)) (omega (arith, second.few_steps)) (omega arith) parts in
    let lengths = same-number (length r.text) (length s.text) 10 _ _ (omega (arith, first.short)) (omega (arith, second.short)) (omega arith) budgets.1 in
    let texts = same-texts r.text s.text a b lengths.0 lengths.1 in
    (same-request r s budgets.0 texts.0, texts.1)

-- the first byte
pub at-first : (xs ys : List ℕ) → xs ≡ ys → get_or xs 0 0 ≡ get_or ys 0 0
at-first xs ys e = ap (λ zs. get_or zs 0 0) e

pub frame-not-bye : (r : Request) (a b : List ℕ) → frame r ++ a ≡ bye ++ b → ⊥
frame-not-bye r a b e = let first : ◌≡◌ {A = ℕ} 82 66 = at-first (frame r ++ a) (bye ++ b) e in omega arith

pub frame-not-none : (r : Request) (a : List ℕ) → frame r ++ a ≡ [] → ⊥
frame-not-none r a e = let first : ◌≡◌ {A = ℕ} 82 0 = at-first (frame r ++ a) [] e in omega arith

pub bye-not-none : (a : List ℕ) → bye ++ a ≡ [] → ⊥
bye-not-none a e = let first : ◌≡◌ {A = ℕ} 66 0 = at-first (bye ++ a) [] e in omega arith

-- of a frame and BYE none begins another one
pub one-whole : (v w a b : List ℕ) → IsFrameOrBye v → IsFrameOrBye w → v ++ a ≡ w ++ b → (v ≡ w) × (a ≡ b)
one-whole v w a b (inl (r, lawful, is)) (inl (s, also, was)) e =
    let same = one-frame r s a b lawful also (ap (λ xs. xs ++ a) (sym is) ∙ e ∙ ap (λ xs. xs ++ b) was) in
    (is ∙ ap frame same.0 ∙ sym was, same.1)
one-whole v w a b (inl (r, lawful, is)) (inr was) e = absurd (frame-not-bye r a b (ap (λ xs. xs ++ a) (sym is) ∙ e ∙ ap (λ xs. xs ++ b) was))
one-whole v w a b (inr is) (inl (s, also, was)) e = absurd (frame-not-bye s b a (ap (λ xs. xs ++ b) (sym was) ∙ sym e ∙ ap (λ xs. xs ++ a) is))
one-whole v w a b (inr is) (inr was) e = (is ∙ sym was, append_cancel_left bye a b (ap (λ xs. xs ++ a) (sym is) ∙ e ∙ ap (λ xs. xs ++ b) was))

-- a proper part begins with no frame and no BYE
pub proper-begins-none : (bytes whole rest : List ℕ) → IsProperPart bytes → IsFrameOrBye whole → bytes ≡ whole ++ rest → ⊥
proper-begins-none bytes whole rest (next, more, one) other e =
    let same = one-whole (bytes ++ next ∷ more) whole [] (rest ++ next ∷ more) one other
    (append-nil (bytes ++ next ∷ more) ∙ ap (λ xs. xs ++ next ∷ more) e ∙ append_assoc whole rest (next ∷ more))
    in
    let none = ap length same.1 in
    omega (arith, none, length-append rest (next ∷ more))

pub proper-is-part : (bytes : List ℕ) → IsProperPart bytes → IsPart bytes
proper-is-part bytes (next, more, one) = (next ∷ more, one)
