use Rattle.std.proofs.Common.{[], ◌∷◌, sym, ◌∙◌, ap, refl}
use Rattle.tx_model.specs.Pending.{Text}
use Rattle.tx_gullet.specs.Scenes.{world_of}
use Rattle.tx_gullet.proofs.SceneLemmas.{step-of-lists, sound-stepped, known-stepped, agrees-stepped, takes-before}
use Rattle.tx_gullet.proofs.scene.Scene.take.Goals as goal

pub scan-requires : goal.scan-requires
scan-requires c = record { sound = record { equivalents = c.requires.sound.equivalents; lists = c.next.ensures.knows c.args.self.now.names c.requires.sound.lists } }

pub returns-in-Some-clause-sound : goal.returns-in-Some-clause-sound
returns-in-Some-clause-sound c =
    sound-stepped (record c.args.self.now { lists = c.next.new.self }) c.step.new.self c.in-Some.token c.step.result c.step.ensures.step
    (record { equivalents = c.requires.sound.equivalents; lists = c.next.ensures.knows c.args.self.now.names c.requires.sound.lists })

pub returns-in-Some-clause-known : goal.returns-in-Some-clause-known
returns-in-Some-clause-known c =
    known-stepped (record c.args.self.now { lists = c.next.new.self }) c.step.new.self c.in-Some.token c.step.result c.step.ensures.step
    (c.in-Some.ensures.known c.args.self.now.names c.requires.sound.lists)

pub returns-in-Some-clause-taking : goal.returns-in-Some-clause-taking
returns-in-Some-clause-taking c naming apart agrees = (
  agrees-stepped naming (record c.args.self.now { lists = c.next.new.self }) c.step.new.self c.in-Some.token c.step.result c.step.ensures.step agrees,
  step-of-lists naming c.args.self.now c.step.new.self c.next.new.self c.in-Some.token c.step.result (c.in-Some.ensures.some naming (Text c.args.self.now.scanner ∷ [])) c.step.ensures.step,
)

pub returns-in-None-clause-taking : goal.returns-in-None-clause-taking
returns-in-None-clause-taking c naming apart agrees =
    let scanned = c.scan.ensures.taking naming apart agrees in
    let passed = c.in-None.ensures.none refl naming in (
      scanned.0,
      takes-before naming c.args.self.now (record c.args.self.now { lists = c.next.new.self }) c.scan.result c.scan.new.self
          (ap (λ members. record { pending = members; environment = (world_of naming c.args.self.now).environment; budget = (world_of naming c.args.self.now).budget; output = (world_of naming c.args.self.now).output }) ((passed (Text c.args.self.now.scanner ∷ [])).0 ∙ sym (passed (Text c.args.self.now.scanner ∷ [])).1))
          (scanned.1 (λ behind. (passed behind).1)),
    )
