use Rattle.tx_run.proofs.KnowledgeLemmas.{tokens-known}
use Rattle.tx_run.specs.Knowledge.{known_by}
use Rattle.std.proofs.Common.{sym, ap}
use Rattle.tx_private.specs.Readings as private
use Rattle.tx_run.proofs.CommandLemmas.{leads-moves}
use Rattle.tx_run.proofs.run.Run.restarts_behind.Goals as goal
use Rattle.tx_private.specs.World.{put_in_front}
use Rattle.tx_views.specs.Views.{all_viewed}

-- the tokens are put in front
pub returns-in-Ok-clause-leads : goal.returns-in-Ok-clause-leads
returns-in-Ok-clause-leads c = λ frozen g is.
    leads-moves g frozen (λ w. private.Again (put_in_front (all_viewed g.view c.args.back) w)) private.Again c.args.self.now.scene c.put.new.self c.restarts.result c.restarts.new.self
    (ap private.Again (sym (c.in-Ok.ensures.in_front g frozen 0 is)))
    (c.restarts.ensures.leads frozen g (c.put.ensures.ground g is))

pub returns-in-Ok-clause-knows : goal.returns-in-Ok-clause-knows
returns-in-Ok-clause-knows c names scene back =
    c.restarts.ensures.knows names (c.put.ensures.knows names (tokens-known (known_by names c.args.self.now.scene) c.args.back back) scene)
