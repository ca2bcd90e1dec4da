use Rattle.std.proofs.Common.{sym, ap}
use Rattle.tx_private.specs.Readings as private
use Rattle.tx_private.specs.World.{World}
use Rattle.tx_eqtb.specs.Meanings.{meanings}
use Rattle.tx_run.proofs.CommandLemmas.{leads-moves}
use Rattle.tx_run.proofs.run.Run.assigns.Goals as goal
use Rattle.tx_private.specs.Assignments.{assigns, release}
use Rattle.tx_assign.specs.Assigned.{prefixes_in}
use Rattle.tx_views.specs.Places.{address_in}
use Rattle.tx_views.specs.Meanings.{meaning_in}

-- what is kept is put in front behind the assignment
pub returns-in-Ok-clause-leads : goal.returns-in-Ok-clause-leads
returns-in-Ok-clause-leads c = λ g is.
    let frozen = meanings c.args.format.now.frozen in
    leads-moves g frozen (assigns (prefixes_in c.args.prefixes) (address_in g.view c.args.place) (meaning_in g.view c.args.meaning)) (λ w. private.Again (release w.kept w)) c.args.self.now.scene c.assign.new.self.scene c.releases.result c.releases.new.self
    (ap (λ (w : World). private.Again (release w.kept w)) (sym (c.in-Ok.ensures.assigned g 0 is.ground)))
    (c.releases.ensures.leads frozen g (c.assign.ensures.keeps.ground g is.ground))

pub returns-in-Ok-clause-knows : goal.returns-in-Ok-clause-knows
returns-in-Ok-clause-knows c names scene = c.releases.ensures.knows names (c.assign.ensures.knows names scene)
