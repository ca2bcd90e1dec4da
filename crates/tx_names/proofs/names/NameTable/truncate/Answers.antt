use Rattle.std.proofs.Common.{◌∙◌, ap, List, ℕ}
use Rattle.std.proofs.lemmas.List.{take-map}
use Rattle.tx_names.specs.Names.{Names, first_texts}
use Rattle.tx_names.proofs.TextLemmas.{distinct-map, truncated}
use Rattle.tx_names.proofs.names.NameTable.truncate.Goals as goal

pub invariant_of-self : goal.invariant_of-self
invariant_of-self c = (
  c.self.invariant.0,
  distinct-map (λ v. v.items) c.self.inside.first c.truncate.new.self.keys c.truncate.ensures.unique,
)

pub returns : goal.returns
returns c =
    truncated (λ v. v.items) c.self.inside.first c.args.len c.self.inside.texts.keys c.truncate.new.self.keys c.truncate.ensures.keys
    ∙ ap (first_texts c.args.len) c.self.view_is
