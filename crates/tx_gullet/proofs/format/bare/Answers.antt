use Rattle.std.proofs.Common.{sym, subst}
use Rattle.tx_model.specs.Bare.{bare_map}
use Rattle.tx_gullet.specs.States.{IsFormat}
use Rattle.tx_gullet.proofs.format.bare.Goals as goal

pub returns : goal.returns
returns c = subst (λ s. IsFormat s bare_map) (sym c.of.ensures) c.in_ok-names.ensures.bare
