use Rattle.std.proofs.Common.{◌+◌, ◌∙◌, ap, sym, length}
use Rattle.tx_levels.proofs.AgreementLemmas.{agrees-undone}
use Rattle.tx_levels.proofs.both.Both.undo.Goals as goal

pub invariant_of-result : goal.invariant_of-result
invariant_of-result c = (
  c.abandon_all.ensures.fits c.undo_all.new.over,
  agrees-undone c.self.inside.over c.undo_all.new.over c.self.inside.groups c.abandon_all.new.groups c.self.inside.levels c.in_ok-undo.field-0 c.undo_all.ensures.now c.undo_all.ensures.before c.abandon_all.ensures.alone c.in_ok-undo.ensures c.self.invariant.1,
  c.abandon_all.ensures.level ∙ ap (λ l. length l.outer + 1) (sym c.in_ok-undo.ensures),
)
