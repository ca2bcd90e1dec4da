-- Reads one after another are one read.
use Rattle.std.proofs.Common.{◌≡◌, ℕ, ◌≤◌, arith, List, [], ◌++◌, Option, None, Some, refl, sym, ap, subst, ◌∙◌, append_assoc}
use Rattle.std.proofs.lemmas.List.{append-nil}
use Rattle.tx_bytes.specs.Tells.{Tells, Gains, Loses, ReadsNext, Stays, HasRisen}

gains-append : (old mid new : Option (List ℕ)) (x y : List ℕ) → Gains old x mid → Gains mid y new → Gains old (x ++ y) new
gains-append None mid new x y first second = subst (λ m. Gains m y new) first second
gains-append (Some old) mid new x y first second =
    let then : new ≡ Some ((old ++ x) ++ y) = subst (λ m. Gains m y new) first second in
    then ∙ ap Some (append_assoc old x y)

loses-append : (old mid new : Option (List ℕ)) (x y : List ℕ) → Loses old x mid → Loses mid y new → Loses old (x ++ y) new
loses-append None mid new x y first second = subst (λ m. Loses m y new) first second
loses-append (Some old) mid new x y first second =
    let then : Loses (Some first.0) y new = subst (λ m. Loses m y new) first.2 second in
    (then.0, first.1 ∙ ap (λ ys. x ++ ys) then.1 ∙ sym (append_assoc x y then.0), then.2)

pub reads-append : (old mid new : Tells) (x y : List ℕ) → ReadsNext old x mid → ReadsNext mid y new → ReadsNext old (x ++ y) new
reads-append old mid new x y first second = record {
  was_read = gains-append old.was_read mid.was_read new.was_read x y first.was_read second.was_read;
  left = loses-append old.left mid.left new.left x y first.left second.left;
  got = second.got ∙ first.got;
}

gains-nothing : (told : Option (List ℕ)) → Gains told [] told
gains-nothing None = refl
gains-nothing (Some bytes) = ap Some (sym (append-nil bytes))

loses-nothing : (told : Option (List ℕ)) → Loses told [] told
loses-nothing None = refl
loses-nothing (Some bytes) = (bytes, refl, refl)

pub reads-nothing : (t : Tells) → ReadsNext t [] t
reads-nothing t = record { was_read = gains-nothing t.was_read; left = loses-nothing t.left; got = refl }

-- nothing was moved after a read
pub reads-stays : (old mid new : Tells) (x : List ℕ) → ReadsNext old x mid → Stays mid new → ReadsNext old x new
reads-stays old mid new x next stays = record {
  was_read = subst (λ told. Gains old.was_read x told) (sym stays.was_read) next.was_read;
  left = subst (λ told. Loses old.left x told) (sym stays.left) next.left;
  got = stays.got ∙ next.got;
}

-- a read that took nothing, after another one
pub reads-no-more : (old mid new : Tells) (x : List ℕ) → ReadsNext old x mid → ReadsNext mid [] new → ReadsNext old x new
reads-no-more old mid new x next none = subst (λ bytes. ReadsNext old bytes new) (append-nil x) (reads-append old mid new x [] next none)

-- a count that rose later rose from before
pub rises-later : (old mid new : Tells) → old.faults ≤ mid.faults → HasRisen mid.faults new.faults → HasRisen old.faults new.faults
rises-later old mid new grows rises = (omega (arith, rises.0), omega (arith, rises.1))
