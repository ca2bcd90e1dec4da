use Rattle.std.proofs.Common.{[], sym, subst}
use Rattle.std.specs.List.{IsDistinct}
use Rattle.std.specs.Map.{keys_of}
use Rattle.tx_eqtb.specs.Addresses.{same}
use Rattle.tx_scene.proofs.tests.nothing.Goals as goal

none : IsDistinct same []
unfolding IsDistinct
none = tt

pub new-requires-2 : goal.new-requires-2
new-requires-2 c = subst (λ l. IsDistinct same (keys_of l)) (sym c.new.ensures.items) none
