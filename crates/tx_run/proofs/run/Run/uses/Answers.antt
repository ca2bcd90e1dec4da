use Rattle.std.proofs.Common.{◌∷◌, sym, subst}
use Rattle.tx_opens.specs.Opens.{begun, depth_of, Comes}
use Rattle.tx_views.specs.Views.{all_viewed}
use Rattle.tx_run.specs.declared.doing.Use.{Use}
use Rattle.tx_run.specs.Readings.{kind_of}
use Rattle.tx_run.specs.Doings.{used}
use Rattle.tx_run.specs.Runs.{opens, world_in, AnyComes, Leads}
use Rattle.tx_run.proofs.run.Run.uses.Goals as goal

-- the list is the reading's value
pub returns-in-Value-clause-leads : goal.returns-in-Value-clause-leads
returns-in-Value-clause-leads c = λ frozen g is r after o kind.
    let run = c.args.self.now in
    let k = kind_of g.view c.args.begun in
    let around = opens g.view run in
    subst (λ (x : Use). Comes o around (used x (all_viewed g.view c.args.tokens) (world_in g frozen k around run)) r) (sym c.in-Value.is) (after o (depth_of (begun k ∷ around)))

-- or it is put in front
pub returns-in-Front-clause-leads : goal.returns-in-Front-clause-leads
returns-in-Front-clause-leads c = λ frozen g is.
    let run = c.args.self.now in
    subst (λ (x : Use). Leads (AnyComes g frozen (kind_of g.view c.args.begun) (opens g.view run) (used x (all_viewed g.view c.args.tokens)) run) g frozen c.again.result c.again.new.self) (sym c.in-Front.is) (c.again.ensures.again frozen g is)
