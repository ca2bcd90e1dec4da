use Rattle.std.proofs.Common.{◌≡◌, [], sym, ◌∙◌, ap}
use Rattle.tx_private.specs.Readings.{Control}
use Rattle.tx_private.specs.Reads.{Result}
use Rattle.tx_private.specs.Region.{started, outcome_of, left_by}
use Rattle.tx_private.proofs.Fuel.{reads-once}
use Rattle.tx_private.proofs.laws.one_outcome.Goals as goal

pub returns : goal.returns
returns c s preamble text budget o p a b x y =
    let same : x.result ≡ y.result = reads-once Control [] (started s preamble text budget) x.result y.result x.run y.run in
    (sym x.is ∙ ap outcome_of same ∙ y.is, sym x.leaves ∙ ap (left_by s) same ∙ y.leaves)
