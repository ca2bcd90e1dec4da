-- Lists that are read.
use Rattle.std.proofs.Common.{◌≡◌, ℕ, zero, suc, ◌≤◌, ◌<◌, List, [], ◌∷◌, ◌++◌, length, drop, reverse, slice_index_or, sym, ◌∙◌, ap, arith}
use Rattle.std.specs.List.{AllByRecursion}
use Rattle.std.proofs.Math.ListN.{drop_of_length-le}
use Rattle.tx_model.specs.Pending.{Member}
use Rattle.tx_names.specs.Names.{Naming}
use Rattle.tx_gullet.specs.declared.input.ListRead.{ListRead}
use Rattle.tx_gullet.specs.declared.input.Lists.{Lists}
use Rattle.tx_gullet.specs.Pieces.{singles, left_of, pieces}
use Rattle.tx_gullet.proofs.LevelLemmas.{reverse-last}

-- The list that is read is used up, and the next one is taken.
pub list-taken : (naming : Naming) (lists : Lists) (rest : List ListRead) (l : ListRead) (behind : List Member) → lists.later.items ≡ rest ++ l ∷ [] → (len : ℕ) → len ≡ length lists.list.value.items → len ≤ lists.read → singles naming (drop l.read l.list.value.items) ++ left_of naming (reverse rest) behind ≡ pieces naming lists behind
list-taken naming lists rest l behind e len is-len used-len =
    let used : length lists.list.value.items ≤ lists.read = omega arith in
    sym (ap (λ tokens. singles naming tokens ++ left_of naming (reverse lists.later.items) behind) (drop_of_length-le lists.list.value.items used)
    ∙ ap (λ ls. left_of naming (reverse ls) behind) e
    ∙ ap (λ ls. left_of naming ls behind) (reverse-last rest l))

-- what holds of each element holds of the one at a place
pub at-place : {X : Type 0} (P : X → Type 0) (xs : List X) (i : ℕ) (d : X) → AllByRecursion P xs → i < length xs → P (slice_index_or xs i d)
at-place P [] i d all inside = absurd-below i inside
  where
    absurd-below : (k : ℕ) → k < 0 → P d
    absurd-below k h =
        let none : ⊥ = omega arith in
        absurd none
at-place P (x ∷ xs) zero d all inside = all.0
at-place P (x ∷ xs) (suc i) d all inside =
    let less : i < length xs = omega arith in
    at-place P xs i d all.1 less
