use Rattle.std.proofs.Common.{Some, sym, ap, ◌∙◌}
use Rattle.tx_views.specs.Meanings.{primitive_in}
use Rattle.tx_run.proofs.SenseLemmas.{same-primitive}
use Rattle.tx_run.proofs.senses.primitive_meaning.Goals as goal

-- the primitive at the place is the one that is looked for
pub returns-then-eq-clause-means : goal.returns-then-eq-clause-means
returns-then-eq-clause-means c = λ view.
    ap primitive_in (sym c.primitive_at.ensures ∙ c.in-Some.is ∙ ap Some (same-primitive c.in-Some.other c.args.primitive (sym c.eq.ensures ∙ c.if-eq.true)))
