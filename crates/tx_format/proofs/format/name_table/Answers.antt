use Rattle.std.proofs.Common.{sym, ◌∙◌}
use Rattle.tx_format.proofs.TableLemmas.{joined}
use Rattle.tx_format.proofs.format.name_table.Goals as goal

pub loop-text-preserved : goal.loop-text-preserved
loop-text-preserved c = joined c.args.texts.now c.loop-text.text-index _ _ c.loop-text.table c.intern.new.self c.requires c.loop-text-test.true (sym c.text-item.is ∙ sym c.as_slice.ensures) c.loop-text.invariant c.in_ok-intern.ensures.absent
