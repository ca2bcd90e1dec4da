-- Reads and writes one after another are one.
use Rattle.std.proofs.Common.{◌≡◌, ℕ, ◌+◌, ◌-◌, ◌≤◌, ◌^◌, min, List, [], ◌∷◌, ◌++◌, Option, None, Some, refl, sym, ap, subst, ◌∙◌, arith, append_assoc}
use Rattle.tx_bytes.specs.Tells.{Tells, Grows, HasRisen, Gains, Loses, ReadsNext, Writes, Stays}

gains-append : (old mid new : Option (List ℕ)) (x y : List ℕ) → Gains old x mid → Gains mid y new → Gains old (x ++ y) new
gains-append None mid new x y first second = subst (λ m. Gains m y new) first second
gains-append (Some old) mid new x y first second =
    let then : new ≡ Some ((old ++ x) ++ y) = subst (λ m. Gains m y new) first second in
    then ∙ ap Some (append_assoc old x y)

loses-append : (old mid new : Option (List ℕ)) (x y : List ℕ) → Loses old x mid → Loses mid y new → Loses old (x ++ y) new
loses-append None mid new x y first second = subst (λ m. Loses m y new) first second
loses-append (Some old) mid new x y first second =
    let then : Loses (Some first.0) y new = subst (λ m. Loses m y new) first.2 second in
    (then.0, first.1 ∙ ap (λ ys. x ++ ys) then.1 ∙ sym (append_assoc x y then.0), then.2)

pub reads-append : (old mid new : Tells) (x y : List ℕ) → ReadsNext old x mid → ReadsNext mid y new → ReadsNext old (x ++ y) new
reads-append old mid new x y first second = record {
  was_read = gains-append old.was_read mid.was_read new.was_read x y first.was_read second.was_read;
  left = loses-append old.left mid.left new.left x y first.left second.left;
  got = second.got ∙ first.got;
}

append-nothing : (xs : List ℕ) → xs ++ [] ≡ xs
append-nothing [] = refl
append-nothing (x ∷ xs) = ap (λ ys. x ∷ ys) (append-nothing xs)

gains-nothing : (told : Option (List ℕ)) → Gains told [] told
gains-nothing None = refl
gains-nothing (Some bytes) = ap Some (sym (append-nothing bytes))

loses-nothing : (told : Option (List ℕ)) → Loses told [] told
loses-nothing None = refl
loses-nothing (Some bytes) = (bytes, refl, refl)

pub reads-nothing : (t : Tells) → ReadsNext t [] t
reads-nothing t = record { was_read = gains-nothing t.was_read; left = loses-nothing t.left; got = refl }

pub writes-append : (old mid new : Tells) (x y : List ℕ) → Writes old x mid → Writes mid y new → Writes old (x ++ y) new
writes-append old mid new x y first second = record {
  was_read = second.was_read ∙ first.was_read;
  left = second.left ∙ first.left;
  got = gains-append old.got mid.got new.got x y first.got second.got;
}

pub writes-nothing : (old new : Tells) → Stays old new → Writes old [] new
writes-nothing old new stays = record {
  was_read = stays.was_read;
  left = stays.left;
  got = subst (λ got. Gains old.got [] got) (sym stays.got) (gains-nothing old.got);
}

-- a count that rose after it grew has risen
pub risen-after : (old mid new : ℕ) → Grows old mid → HasRisen mid new → HasRisen old new
risen-after old mid new grows risen = (omega (arith, risen.0), omega (arith, risen.1))

pub stays-same : (t : Tells) → Stays t t
stays-same t = record { was_read = refl; left = refl; got = refl }
