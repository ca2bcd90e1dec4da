use Rattle.std.proofs.Common.{sym, subst}
use Rattle.tx_gullet.specs.States.{StandsFor}
use Rattle.tx_gullet.proofs.engine.Engine.new.Goals as goal

pub returns : goal.returns
returns c map stands = subst (λ s. StandsFor s map) (sym c.in_ok-running.ensures) (c.in_ok-names.ensures.stands map stands)
