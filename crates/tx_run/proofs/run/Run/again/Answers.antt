use Rattle.tx_run.specs.declared.doing.Doing.TheVariants as doing
use Rattle.tx_scene.specs.declared.scene.Scene.{Scene}
use Rattle.tx_run.specs.declared.run.Run.{Run}
use Rattle.tx_run.proofs.KnowledgeLemmas.{known-on, tokens-known}
use Rattle.tx_run.specs.Knowledge.{known_by}
use Rattle.std.proofs.Common.{◌∷◌, sym, ◌∙◌, subst, ap}
use Rattle.tx_private.specs.Readings as private
use Rattle.tx_private.specs.World.{World, put_in_front}
use Rattle.tx_opens.specs.Opens.{begun, depth_of, Comes}
use Rattle.tx_views.specs.Views.{all_viewed}
use Rattle.tx_scene.specs.Changes.{Changes}
use Rattle.tx_run.specs.Readings.{kind_of}
use Rattle.tx_run.specs.Runs.{opens}
use Rattle.tx_run.proofs.ReadingLemmas.{gone}
use Rattle.tx_run.proofs.run.Run.again.Goals as goal

-- the tokens are put in front
pub returns-clause-again : goal.returns-clause-again
returns-clause-again c = λ frozen g is r after o kind.
    let run = c.args.self.now in
    let around = opens g.view run in
    let changes = gone (Changes (λ h w. put_in_front (all_viewed h.view c.args.back) w) run.scene c.put.new.self) c.put.result (sym c.is_err.ensures.value ∙ c.if-is_err.false) c.put.ensures.in_front in
    subst (λ (w : World). Comes o around (private.Again w) r) (changes g frozen (depth_of (begun (kind_of g.view c.args.begun) ∷ around)) is) (after o kind)

pub returns-clause-knows : goal.returns-clause-knows
returns-clause-knows c names scene behind start back =
    let old = c.args.self.now in
    let new : Run = record old { scene = c.put.new.self; doing = doing.Begins c.args.begun } in
    known-on names old.scene new (ap (λ (s : Scene). s.environment) c.put.ensures.becomes) (c.put.ensures.knows names (tokens-known (known_by names old.scene) c.args.back back) scene) start behind
