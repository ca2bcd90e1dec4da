use Rattle.std.proofs.Common.{◌∙◌, sym, ◌≡◌}
use Rattle.tx_eqtb.specs.Addresses.{entry_at}
use Rattle.tx_eqtb.proofs.EntryLemmas.{on_ok, if_ok, sum_by-inserted}
use Rattle.tx_eqtb.proofs.maps.replace.Goals as goal

pub returns-clause-sums : goal.returns-clause-sums
returns-clause-sums g c f =
    let there = sym (if_ok (λ old. old ≡ entry_at c.args.map.now.entries c.args.at) c.insert.result c.unwrap.result c.unwrap.ensures c.insert.ensures.old) ∙ c.unwrap-2.ensures in
    rw (on_ok _ _ c.unwrap.ensures c.insert.ensures.entries) (sum_by-inserted f c.args.map.now.entries c.args.at c.args.value c.unwrap-2.result there)
