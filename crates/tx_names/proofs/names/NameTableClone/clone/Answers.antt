use Rattle.std.proofs.Common.{◌∙◌, sym, ap, subst}
use Rattle.std.specs.List.{each_same}
use Rattle.tx_names.specs.Names.{IsDistinct}
use Rattle.tx_names.proofs.TextLemmas.{table-cloned}
use Rattle.tx_names.proofs.names.NameTableClone.clone.Goals as goal

pub invariant_of-result : goal.invariant_of-result
invariant_of-result c = (
  c.self.invariant.0,
  subst IsDistinct (sym (table-cloned (λ v. v.items) c.self.inside.first _ (λ v w zip. each_same v.items w.items zip.0) c.self.inside.texts.keys c.in_ok-texts.texts.keys c.in_ok-texts.ensures.cases)) c.self.invariant.1,
)

pub returns : goal.returns
returns c = record {
  cases =
      table-cloned (λ v. v.items) c.self.inside.first _ (λ v w zip. each_same v.items w.items zip.0) c.self.inside.texts.keys c.in_ok-texts.texts.keys c.in_ok-texts.ensures.cases
      ∙ c.self.view_is;
}
