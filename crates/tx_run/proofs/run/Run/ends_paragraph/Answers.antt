use Rattle.tx_run.proofs.KnowledgeLemmas.{falls-as}
use Rattle.std.proofs.Common.{ap, subst, [], arith}
use Rattle.tx_private.specs.Readings as private
use Rattle.tx_private.specs.World.{World}
use Rattle.tx_run.proofs.run.Run.ends_paragraph.Goals as goal
use Rattle.tx_opens.specs.Opens.{Comes}
use Rattle.tx_run.specs.Doings.{hang_after_first}

-- the lines hang by nothing, and then after the first line
pub returns-in-Ok-clause-leads : goal.returns-in-Ok-clause-leads
returns-in-Ok-clause-leads c = λ frozen g is r p o k.
    subst (λ m. Comes o [] m r) (ap (λ (w : World). private.Again (hang_after_first w)) (c.in-Ok.ensures.assigned g frozen 0 is)) (p o k)

pub returns-in-Ok-clause-knows : goal.returns-in-Ok-clause-knows
returns-in-Ok-clause-knows c names scene = record { scene = c.assign.ensures.knows names scene; doing = tt; behind = tt }

pub returns-in-Ok-clause-holds : goal.returns-in-Ok-clause-holds
returns-in-Ok-clause-holds c empty id =
    omega (arith, c.in-Ok.ensures.references id, falls-as id c.in-Ok.out c.fallen-self.result c.fallen-self.ensures)
