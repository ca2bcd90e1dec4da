use Rattle.std.proofs.Common.{◌∙◌}
use Rattle.tx_eqtb.specs.Addresses.{entry_at}
use Rattle.tx_format.proofs.FillLemmas.{filled-step}
use Rattle.tx_format.proofs.fill.fill.Goals as goal

pub loop-no-preserved : goal.loop-no-preserved
loop-no-preserved c = (
  λ q. c.in_ok-put_told.ensures.entries q ∙ filled-step c.args.preset c.args.kind (entry_at c.args.map.now.entries) c.loop-no.no (entry_at c.loop-no.map.entries) c.loop-no.invariant.0 q,
  c.in_ok-put_told.ensures.unique,
)
