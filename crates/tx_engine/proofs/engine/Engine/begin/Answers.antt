use Rattle.std.proofs.Common.{◌≤◌, length, arith, refl, sym, subst}
use Rattle.tx_run.specs.Runs.{ComesFrom}
use Rattle.tx_engine.specs.Agreement.{known_names}
use Rattle.tx_engine.specs.Standing.{frozen_of, IsReadyIn, KnowsIn}
use Rattle.tx_engine.proofs.TickLemmas.{serves-on, back-begun}
use Rattle.tx_engine.proofs.engine.Engine.begin.Goals as goal

pub returns-clause-serves : goal.returns-clause-serves
returns-clause-serves c session serves =
    let old = c.args.self.now in
    let known = subst (λ p. KnowsIn (known_names session) p old.run) c.requires.phase serves.knows in
    serves-on session old _ serves refl
    (λ g is. c.begin.ensures.ground g (record { view = is.view; formats = is.formats }))
    c.begin.ensures.holds
    (c.begin.ensures.knows (known_names session) (record { input = known.input; kept = known.kept; groups = known.groups }))

pub returns-clause-stands : goal.returns-clause-stands
returns-clause-stands c session s serves rests =
    let old = c.args.self.now in
    let ready = subst (λ p. IsReadyIn c.requires.ready.0 p old.run) c.requires.phase c.requires.ready.1 in
    record {
      means = λ g agrees r means. subst (λ x. ComesFrom x old.preamble c.args.text c.args.budget r) (rests g agrees) (c.begin.ensures.means g (frozen_of session) r means);
      names = subst (λ own. c.names-self.result ≤ length own) (sym c.begin.ensures.names) (omega (arith, c.names-self.ensures));
      back = λ g agrees. back-begun g (frozen_of session) c.names-self.result s old.run.scene c.begin.new.self.scene c.names-self.ensures ready.2 c.begin.ensures.environment c.begin.ensures.names (rests g agrees);
    }
