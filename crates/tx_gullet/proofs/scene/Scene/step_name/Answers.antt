use Rattle.std.proofs.Common.{◌≢◌, sym, subst, arith}
use Rattle.std.proofs.lemmas.Bool.Decides.{nat_tests}
use Rattle.tx_names.specs.Names.{HasNumber}
use Rattle.tx_gullet.proofs.SceneLemmas.{name-stepped, grows-by-intern, sound-more}
use Rattle.tx_gullet.proofs.scene.Scene.step_name.Goals as goal

pub returns-in-Ok-clause-name : goal.returns-in-Ok-clause-name
returns-in-Ok-clause-name c =
    let test = c.if-are_spent.ensures in
    let left : c.args.self.now.steps.spent ≢ c.args.self.now.steps.budget = grind (arith, nat_tests, test) in
    name-stepped c.args.self.now c.step.new.self c.intern.new.self c.args.name.now c.in-Ok.number c.step.result left c.in-Ok.ensures.number
    (grows-by-intern c.args.self.now.names c.intern.new.self c.args.name.now c.in-Ok.ensures.present c.in-Ok.ensures.absent)
    c.in-Ok.ensures.agrees c.step.ensures.step

pub returns-in-Err-clause-sound : goal.returns-in-Err-clause-sound
returns-in-Err-clause-sound c =
    sound-more c.args.self.now c.intern.new.self (λ n has. subst (λ t. HasNumber t n) (sym c.in-Err.ensures.err) has) c.requires.sound
