use Rattle.tx_frames.specs.Knowledge.{KnowsFrame}
use Rattle.tx_frames.specs.declared.frame.Frame.{Frame}
use Rattle.std.specs.List.{AllByRecursion}
use Rattle.tx_run.proofs.KnowledgeLemmas.{listless}
use Rattle.tx_run.specs.Knowledge.{known_by}
use Rattle.std.proofs.Common.{sym, ap, ◌∙◌, subst, refl, List}
use Rattle.tx_private.specs.World.{World}
use Rattle.tx_scene.specs.Scenes.{world}
use Rattle.tx_eqtb.specs.Meanings.{meanings}
use Rattle.tx_run.specs.declared.run.Run.{Run}
use Rattle.tx_run.proofs.CommandLemmas.{command-wishes}
use Rattle.tx_run.proofs.run.Run.relaxes.Goals as goal
use Rattle.tx_private.specs.Assignments.{assigned}
use Rattle.tx_assign.specs.Assigned.{prefixes_in}
use Rattle.tx_views.specs.Places.{address_in}
use Rattle.tx_frames.specs.Kinds.{wished}
use Rattle.tx_commands.specs.Wishes.{wish_of}

-- the command goes on in the world after the assignment
pub returns-in-Ok-clause-concludes : goal.returns-in-Ok-clause-concludes
returns-in-Ok-clause-concludes c = λ g is o m k b.
    let s = c.args.self.now.scene in
    let new = c.assign.new.self in
    let frozen = meanings c.args.format.now.frozen in
    let p = prefixes_in c.args.prefixes in
    let at = address_in g.view c.args.place in
    let after = sym (c.in-Ok.ensures.assigned g 0 is.ground ∙ ap (λ x. assigned p at x (world g frozen 0 s)) (c.in-Some.ensures.means g.view)) in
    λ r q. command-wishes g frozen new.scene new.frames c.args.command o m r (ap (λ (x : Run). x.frames) c.assign.ensures.becomes ∙ c.requires.empty) b.0
    (b.1 ∙ ap (λ (w : World). wished g.view (wish_of c.args.command) w) after) q

pub returns-in-Ok-clause-knows : goal.returns-in-Ok-clause-knows
returns-in-Ok-clause-knows c names scene control =
    let new = c.assign.new.self in
    let none = ap (λ (r : Run). r.frames) c.assign.ensures.becomes ∙ c.requires.empty in
    record {
      scene = c.assign.ensures.knows names scene;
      doing = tt;
      behind = record {
        readings = subst (λ (fs : List Frame). AllByRecursion (KnowsFrame (known_by names new.scene)) fs) (sym none) tt;
        control = listless (known_by names c.args.self.now.scene) (known_by names new.scene) c.args.command refl control;
      };
    }

pub returns-in-Err-clause-knows : goal.returns-in-Err-clause-knows
returns-in-Err-clause-knows c names scene control = c.assign.ensures.knows names scene
