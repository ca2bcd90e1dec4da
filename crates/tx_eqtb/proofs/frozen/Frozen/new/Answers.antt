use Rattle.std.proofs.Common.{◌++◌, ap, subst, ◌∙◌}
use Rattle.std.specs.List.{IsDistinct}
use Rattle.std.specs.Map.{keys_of}
use Rattle.indexmap.proofs.MapLemmas.{absent_before}
use Rattle.tx_eqtb.specs.contracts.addr.AddrEq.TheImpl.Laws.{laws-law}
use Rattle.tx_eqtb.specs.Addresses.{same}
use Rattle.tx_eqtb.proofs.frozen.Frozen.new.Goals as goal

pub add-requires-clause-absent : goal.add-requires-clause-absent
add-requires-clause-absent g c =
    absent_before laws-law c.loop-at.map.entries c.next.new.self.rest.items (c.in-Some.at, c.in-Some.m) (subst (λ l. IsDistinct same (keys_of l)) (c.loop-at.invariant.0 ∙ ap (λ l. c.loop-at.map.entries ++ l) c.in-Some.ensures.steps.0) c.requires)
