use Rattle.std.proofs.Common.{◌∙◌, refl, sym}
use Rattle.tx_eqtb.specs.Addresses.{entry_at}
use Rattle.tx_format.specs.declared.fill.TheConstants.{KINDS}
use Rattle.tx_format.proofs.FillLemmas.{filled-after, filled-all, all-filled}
use Rattle.tx_format.proofs.fill.all_told.Goals as goal

pub loop-kind-preserved : goal.loop-kind-preserved
loop-kind-preserved c = (
  λ q. filled-after c.args.preset KINDS c.loop-kind.kind-index _ q (entry_at c.loop-kind.map.entries q) (entry_at c.fill.new.map.entries q) c.loop-kind-test.true (c.in_ok-fill.ensures.entries q)
      ∙ c.loop-kind.invariant.0 q,
  c.in_ok-fill.ensures.unique,
  refl,
)

pub returns-clause-entries : goal.returns-clause-entries
returns-clause-entries c q =
    sym (filled-all c.args.preset KINDS c.loop-kind.kind-index q (entry_at c.loop-kind.map.entries q) c.loop-kind-test.false)
    ∙ c.loop-kind.invariant.0 q
    ∙ all-filled c.args.preset q.kind q.no
