use Rattle.std.proofs.Common.{◌∙◌, ap, sym, subst}
use Rattle.tx_format.specs.Formats.{IsFreezable}
use Rattle.tx_format.proofs.TableLemmas.{freezable-with}
use Rattle.tx_format.proofs.format.freeze.Goals as goal

pub invariant_of-result : goal.invariant_of-result
invariant_of-result c = (
  ap (λ n. n.first) c.in_ok-names.ensures,
  freezable-with _ c.in_ok-names.names.texts (subst IsFreezable (sym c.state.view_is) c.requires)
      (ap (λ n. n.texts) c.in_ok-names.ensures ∙ c.as_slice.ensures.value),
)
