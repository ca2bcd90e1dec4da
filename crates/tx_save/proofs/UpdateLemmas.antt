-- What changes at addresses make of functions.
use Rattle.std.proofs.Common.{◌≡◌, Bool, true, false, MatchBool, if◌then◌else◌, refl, sym, ap, subst, ◌∙◌, true≢false}
use Rattle.tx_eqtb.specs.contracts.addr.AddrEq.TheImpl.Laws.{laws-law}
use Rattle.tx_eqtb.specs.declared.addr.Addr.{Addr}
use Rattle.tx_eqtb.specs.Addresses.{same, update}
use Rattle.tx_eqtb.proofs.AddressLemmas.{same-equal, by_address}

pub by_answer : {P : Type 0} (b : Bool) → (b ≡ true → P) → (b ≡ false → P) → P
by_answer true p q = p refl
by_answer false p q = q refl

pub match_cases : {P Q R : Type 0} (b : Bool) → (b ≡ true → P → R) → (b ≡ false → Q → R) → MatchBool b P Q → R
match_cases true f g h = f refl h
match_cases false f g h = g refl h

pub match_true : (P Q : Type 0) (b : Bool) → b ≡ true → P → MatchBool b P Q
match_true P Q b e p = subst (λ c. MatchBool c P Q) (sym e) p

pub match_false : (P Q : Type 0) (b : Bool) → b ≡ false → Q → MatchBool b P Q
match_false P Q b e q = subst (λ c. MatchBool c P Q) (sym e) q

if_twice : {X : Type 0} (b : Bool) (x y z : X) → (if b then y else (if b then x else z)) ≡ (if b then y else z)
if_twice true x y z = refl
if_twice false x y z = refl

if_apart : {X : Type 0} (a b : Bool) (x y z : X) → (a ≡ true → b ≡ false) → (if b then y else (if a then x else z)) ≡ (if a then x else (if b then y else z))
if_apart true true x y z h = absurd (true≢false (h refl))
if_apart true false x y z h = refl
if_apart false true x y z h = refl
if_apart false false x y z h = refl

module _ {X : Type 0} where
  -- the value at the address itself
  pub update-same : (f : Addr → X) (at : Addr) (x : X) → update f at x at ≡ x
  update-same f at x = ap (λ c. if c then x else f at) (laws-law.refl at)

  -- the value at another
  pub update-other : (f : Addr → X) (at a : Addr) (x : X) → same at a ≡ false → update f at x a ≡ f a
  update-other f at a x n = ap (λ c. if c then x else f a) n

  pub update-twice : (f : Addr → X) (at : Addr) (x y : X) → update (update f at x) at y ≡ update f at y
  update-twice f at x y = λ i q. if_twice (same at q) x y (f q) i

  pub update-self : (f : Addr → X) (at : Addr) (x : X) → f at ≡ x → update f at x ≡ f
  update-self f at x is =
      let P : Addr → Bool → Type 0 = λ r c. (if c then x else f r) ≡ f r in
      let all : (q : Addr) → update f at x q ≡ f q = by_address at P (sym is) (λ r. refl) in
      λ i q. all q i

  pub update-comm : (f : Addr → X) (at a : Addr) (x y : X) → same at a ≡ false → update (update f at x) a y ≡ update (update f a y) at x
  update-comm f at a x y apart =
      let no : (q : Addr) → same at q ≡ true → same a q ≡ false = λ q t. by_answer (same a q) (λ u. absurd (true≢false (sym t ∙ ap (λ r. same at r) (sym (same-equal a q u)) ∙ apart))) (λ n. n) in
      λ i q. if_apart (same at q) (same a q) x y (f q) (no q) i
