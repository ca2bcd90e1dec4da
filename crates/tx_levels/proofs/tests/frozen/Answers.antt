use Rattle.std.proofs.Common.{◌≡◌, List, ◌++◌, ◌∷◌, [], sym, ap, subst, ◌∙◌}
use Rattle.std.specs.List.{IsDistinct}
use Rattle.std.specs.Map.{keys_of}
use Rattle.tx_eqtb.specs.declared.addr.Addr.{Addr}
use Rattle.tx_eqtb.specs.Addresses.{same}
use Rattle.tx_levels.proofs.tests.frozen.Goals as goal

one : (at : Addr) → IsDistinct same (at ∷ [])
unfolding IsDistinct
one at = (tt, tt)

one_entry : {V : Type 0} (xs ys : List (Addr × V)) (p : Addr × V) → ys ≡ xs ++ p ∷ [] → xs ≡ [] → IsDistinct same (keys_of ys)
one_entry xs ys p pushed empty = subst (λ l. IsDistinct same (keys_of l)) (sym (pushed ∙ ap (λ l. l ++ p ∷ []) empty)) (one p.0)

pub new-requires : goal.new-requires
new-requires c = one_entry _ _ _ c.in_ok-push.ensures.items c.new-entries.ensures.items
