use Rattle.std.proofs.Common.{◌≡◌, ◌≢◌, sym, ◌∙◌, ap, subst, length, arith}
use Rattle.std.proofs.lemmas.Bool.Decides.{nat_tests}
use Rattle.tx_model.specs.Moves.{TextEnd}
use Rattle.tx_model.specs.Reads.{Gave}
use Rattle.tx_model.specs.Opens.{Then}
use Rattle.tx_gullet.specs.Scenes.{world_of}
use Rattle.tx_gullet.specs.Runs.{outer}
use Rattle.tx_model.proofs.Opens.{gave-tell}
use Rattle.tx_gullet.proofs.RunLemmas.{done-at-end, then-waiting, outer-empty}
use Rattle.tx_gullet.proofs.running.Running.control_ended.Goals as goal

pub returns-then-is_empty-clause-took : goal.returns-then-is_empty-clause-took
returns-then-is_empty-clause-took c naming apart agrees r e w none =
    let test = c.if-is_empty.ensures in
    let items : length c.as_slice.result.now ≡ 0 = grind (arith, nat_tests, test) in
    done-at-end naming c.args.self.now.frame (outer naming c.args.self.now) w (world_of naming c.args.self.now.scene) r none (c.requires.ended naming)
    (subst (λ around. Then around (Gave TextEnd (world_of naming c.args.self.now.scene)) r) (sym (outer-empty naming c.args.self.now.waiting.items (sym (ap length c.as_slice.ensures.value) ∙ items))) (gave-tell e.0 TextEnd (world_of naming c.args.self.now.scene) r e.1))

pub returns-else-is_empty-clause-took : goal.returns-else-is_empty-clause-took
returns-else-is_empty-clause-took c naming apart agrees r e w none =
    let test = c.if-is_empty.ensures in
    let items : length c.as_slice.result.now ≢ 0 = grind (arith, nat_tests, test) in
    done-at-end naming c.args.self.now.frame (outer naming c.args.self.now) w (world_of naming c.args.self.now.scene) r none (c.requires.ended naming)
    (then-waiting naming c.args.self.now.waiting.items (world_of naming c.args.self.now.scene) r (λ empty. items (ap length c.as_slice.ensures.value ∙ empty)) e)
