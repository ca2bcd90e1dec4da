use Rattle.std.proofs.Common.{◌≡◌, [], sym, ◌∙◌, ap}
use Rattle.tx_model.specs.Moves.{Control}
use Rattle.tx_model.specs.Reads.{Result}
use Rattle.tx_model.specs.Region.{started, outcome_of, left_by}
use Rattle.tx_model.proofs.Fuel.{reads-once}
use Rattle.tx_model.proofs.laws.one_outcome.Goals as goal

pub returns : goal.returns
returns c map text budget o p a b x y =
    let same : x.result ≡ y.result = reads-once Control [] (started map text budget) x.result y.result x.run y.run in
    (sym x.is ∙ ap outcome_of same ∙ y.is, sym x.leaves ∙ ap (left_by map) same ∙ y.leaves)
