use Rattle.tx_run.specs.declared.doing.Doing.TheVariants as doing
use Rattle.tx_run.proofs.run.Run.goes.Goals.{then-is_err-via-then-is_err+in-Scan-1, then-is_err-via-then-is_err+in-Text-1, then-is_err-via-then-is_err+in-LeftBrace-1, then-is_err-via-else-is_err+then-is_err-2}
use Rattle.tx_scene.specs.Knowledge.{KnowsScene}
use Rattle.std.specs.List.{AllByRecursion}
use Rattle.tx_frames.specs.declared.frame.Frame.{Frame}
use Rattle.tx_scene.specs.declared.scene.Scene.{Scene}
use Rattle.tx_run.specs.declared.run.Run.{Run}
use Rattle.tx_frames.specs.Knowledge.{KnowsFrame}
use Rattle.tx_run.proofs.KnowledgeLemmas.{known-on, tokens-known}
use Rattle.tx_run.specs.Knowledge.{known_by}
use Rattle.std.proofs.Common.{◌≡◌, ◌∷◌, sym, ◌∙◌, ap, subst, List}
use Rattle.tx_private.specs.World.{put_in_front}
use Rattle.tx_views.specs.Views.{all_viewed}
use Rattle.tx_scene.specs.Changes.{Changes}
use Rattle.tx_run.proofs.ReadingLemmas.{gone, goes-on}
use Rattle.tx_run.proofs.run.Run.goes.Goals as goal

-- the reading is the innermost one now
pub returns-clause-goes : goal.returns-clause-goes
returns-clause-goes c = λ frozen g is r after.
    let run = c.args.self.now in
    let changes = gone (Changes (λ h w. put_in_front (all_viewed h.view c.args.back) w) run.scene c.put.new.self) c.put.result (sym c.is_err.ensures.value ∙ c.if-is_err.false) c.put.ensures.in_front in
    let pushed = gone (c.push.new.self ≡ c.args.frame ∷ run.frames) c.push.result (sym c.is_err-else-is_err.ensures.value ∙ c.if-is_err-2.false) c.push.ensures.ok in
    goes-on g frozen c.args.frame (all_viewed g.view c.args.back) c.push.new.self run c.put.new.self r pushed (λ depth. changes g frozen depth is) after

pub returns-clause-knows : goal.returns-clause-knows
returns-clause-knows c names scene behind frame back =
    let old = c.args.self.now in
    let known = known_by names old.scene in
    let pushed = gone (c.push.new.self ≡ c.args.frame ∷ old.frames) c.push.result (sym c.is_err-else-is_err.ensures.value ∙ c.if-is_err-2.false) c.push.ensures.ok in
    let new : Run = record old { scene = c.put.new.self; frames = c.push.new.self; doing = doing.Wishes } in
    known-on names old.scene new (ap (λ (s : Scene). s.environment) c.put.ensures.becomes) (c.put.ensures.knows names (tokens-known known c.args.back back) scene) tt
    (record { readings = subst (λ (fs : List Frame). AllByRecursion (KnowsFrame known) fs) (sym pushed) (frame, behind.readings); control = behind.control })

pub returns-then-is_err-clause-knows : goal.returns-then-is_err-clause-knows
returns-then-is_err-clause-knows c names scene behind frame back =
    let there = c.put.ensures.knows names (tokens-known (known_by names c.args.self.now.scene) c.args.back back) scene in
    elim c.then-is_err.branch [
      | then-is_err-via-then-is_err+in-Scan-1 w ↦ subst (λ (r : Run). KnowsScene names r.scene) (sym w.self-is) there
      | then-is_err-via-then-is_err+in-Text-1 w ↦ subst (λ (r : Run). KnowsScene names r.scene) (sym w.self-is) there
      | then-is_err-via-then-is_err+in-LeftBrace-1 w ↦ subst (λ (r : Run). KnowsScene names r.scene) (sym w.self-is) there
      | then-is_err-via-else-is_err+then-is_err-2 w ↦ subst (λ (r : Run). KnowsScene names r.scene) (sym w.self-is) there
    ]
