-- Addresses that are the same are equal.
use Rattle.std.proofs.Common.{◌≡◌, Bool, true, false, ◌&&◌, subst, refl, sym, true≢false}
use Rattle.std.proofs.Math.Dec.{eqb}
use Rattle.std.proofs.lemmas.Bool.{eqb-true}
use denote.Enum.Bare.{sameb, same_true}
use Rattle.tx_eqtb.specs.contracts.addr.AddrKind.{the_type}
use Rattle.tx_eqtb.specs.declared.addr.Addr.{Addr}
use Rattle.tx_eqtb.specs.Addresses.{same}

both : (a b : Bool) → a && b ≡ true → (a ≡ true) × (b ≡ true)
both true b e = (refl, e)
both false b e = absurd (true≢false (sym e))

pub same-equal : (a b : Addr) → same a b ≡ true → a ≡ b
same-equal a b e =
    let parts = both (sameb the_type a.kind b.kind) (eqb a.no b.no) e in
    let kinds = same_true the_type tt a.kind b.kind parts.0 in
    let numbers = eqb-true a.no b.no parts.1 in
    λ i. record { kind = kinds i; no = numbers i }

by_answer : {P : Type 0} (b : Bool) → (b ≡ true → P) → (b ≡ false → P) → P
by_answer true p q = p refl
by_answer false p q = q refl

-- what holds at one address, and where the test for it fails, holds at each
pub by_address : (at : Addr) (P : Addr → Bool → Type 0) → P at true → ((q : Addr) → P q false) → (q : Addr) → P q (same at q)
by_address at P here others q =
    by_answer (same at q) (λ y. subst (P q) (sym y) (subst (λ r. P r true) (same-equal at q y) here)) (λ n. subst (P q) (sym n) (others q))
