use Rattle.std.proofs.Common.{◌≡◌, arith, ap}
use Rattle.tx_environment.specs.Holding.{counted}
use Rattle.tx_environment.specs.States.{State}
use Rattle.tx_environment.specs.Steps.{held}
use Rattle.tx_scene.specs.Knowledge.{references}
use Rattle.tx_scene.specs.Scenes.{world}
use Rattle.tx_run.specs.Knowledge.{known_by}
use Rattle.tx_run.proofs.CommandLemmas.{none-wait-around}
use Rattle.tx_run.proofs.KnowledgeLemmas.{none-known}
use Rattle.tx_run.proofs.WishLemmas.{region-begins}
use Rattle.tx_run.proofs.run.Run.begin.Goals as goal

-- main control begins in the world in which the region does
pub returns-clause-means : goal.returns-clause-means
returns-clause-means c g frozen r comes =
    let s = c.begin.new.self in
    region-begins g frozen s c.new.result c.start-self.result _ r c.new.ensures (c.begin.ensures.begun g frozen) (c.start-self.ensures.begins g.view (world g frozen 0 s)) comes

-- no reading is open
pub returns-clause-waits : goal.returns-clause-waits
returns-clause-waits c = none-wait-around c.new.result c.new.ensures

pub returns-clause-knows : goal.returns-clause-knows
returns-clause-knows c names scene =
    let known = known_by names c.begin.new.self in
    record { scene = c.begin.ensures.knows names scene; doing = tt; behind = none-known known c.new.result c.start-self.result c.new.ensures (c.start-self.ensures.knows known) }

pub returns-clause-holds : goal.returns-clause-holds
returns-clause-holds c id =
    let same : references id c.begin.new.self ≡ references id c.args.self.now.scene = ap (λ (e : State). counted id (held e)) c.begin.ensures.environment in
    omega (arith, same, c.requires.empty.doing id)
