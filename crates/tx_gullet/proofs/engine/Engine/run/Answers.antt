use Rattle.std.proofs.Common.{subst}
use Rattle.std.specs.Prelude.{IfOk}
use Rattle.tx_gullet.specs.States.{Answered}
use Rattle.tx_gullet.specs.Runs.{state_of}
use Rattle.tx_gullet.proofs.engine.Engine.run.Goals as goal

pub returns-clause-answered : goal.returns-clause-answered
returns-clause-answered c =
    subst (λ s. IfOk c.run.result (λ outcome. Answered s c.args.text c.args.budget outcome (state_of c.run.new.self))) c.self.view_is c.run.ensures.answered
