use Rattle.std.proofs.Common.{sym, subst}
use Rattle.tx_environment.specs.Steps.{IsOutermost}
use Rattle.tx_environment.proofs.StepLemmas.{kept-alone}
use Rattle.tx_environment.proofs.environment.Environment.keep.Goals as goal

pub returns-clause-environment : goal.returns-clause-environment
returns-clause-environment c none view frozen =
    let outermost = subst IsOutermost (sym c.self.view_is) none in
    rw (← c.self.view_is) (kept-alone c.self.inside.over c.keep.new.self c.self.inside.save c.keep.ensures.now outermost view frozen)
