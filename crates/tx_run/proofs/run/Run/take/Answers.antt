use Rattle.tx_run.specs.declared.doing.Doing.TheVariants as doing
use Rattle.tx_run.specs.declared.run.Run.{Run}
use Rattle.tx_run.proofs.KnowledgeLemmas.{known-on, known-token, open-same}
use Rattle.tx_run.specs.Knowledge.{known_by}
use Rattle.std.proofs.Common.{◌≡◌, pos, arith, sym, ap, subst, List, ℕ, IsSomeAnd}
use Rattle.tx_eqtb.specs.Meanings.{meanings}
use Rattle.tx_model.specs.Tokens.{Name}
use Rattle.tx_private.specs.Errors.{numbered}
use Rattle.tx_private.specs.World.{failure, Takes, Finds-none, Spends, Breaks, taking as taking_from, making}
use Rattle.tx_private.specs.Readings as private
use Rattle.tx_opens.specs.Opens.{depth_of, Comes}
use Rattle.tx_opens.proofs.Opens.{comes-end, comes-broken}
use Rattle.tx_views.specs.Views.{viewed}
use Rattle.tx_environment.specs.States.{State}
use Rattle.tx_environment.specs.Soundness.{IsSound, IsFirst}
use Rattle.tx_input.specs.Worlds.{present, new_text}
use Rattle.tx_scene.specs.declared.scene.Scene.{Scene}
use Rattle.tx_scene.specs.Scenes.{world}
use Rattle.tx_run.specs.Readings.{taking, behind}
use Rattle.tx_run.specs.Runs.{opens, world_now, ComesTaken, ComesEnded, FailsNow}
use Rattle.tx_run.proofs.RunLemmas.{leads-map, keeps-then}
use Rattle.tx_run.proofs.WishLemmas.{takes-token, takes-name, takes-none, keeps-take, left-stepped, left-same}
use Rattle.tx_run.proofs.run.Run.take.Goals as goal

-- a token came
pub returns-in-Token-clause-leads : goal.returns-in-Token-clause-leads
returns-in-Token-clause-leads c = λ g is.
    let run = c.args.self.now in
    let frozen = meanings c.args.format.now.frozen in
    let old = run.scene in
    let new = c.take.new.self in
    let o = taking g.view c.args.taker run.frames run.command in
    let around = behind g.view c.args.taker run.frames run.command in
    let depth = depth_of (opens g.view run) in
    let same : new.environment ≡ old.environment = ap (λ (s : Scene). s.environment) c.take.ensures.becomes in
    let takes = subst (λ f. taking_from (world g (meanings f) depth old) ≡ Takes (present (world g (meanings f) depth old) (viewed g.view c.in-Token.token)) (world g (meanings f) depth new)) c.frozen.ensures (c.in-Token.ensures.takes g depth is.ground) in
    leads-map (ComesTaken g frozen c.args.taker c.in-Token.token (record run { scene = new; moves = 4294967295 })) (Comes o around (private.Take (world_now g frozen run))) g frozen c.took.result c.took.new.self
    (λ r p. takes-token g frozen o around depth c.in-Token.token old new r same (c.requires.room g frozen depth) takes p)
    (c.took.ensures.leads g (record { ground = c.take.ensures.ground g is.ground; lists = is.lists }))

pub returns-in-Token-clause-keeps : goal.returns-in-Token-clause-keeps
returns-in-Token-clause-keeps c =
    let run = c.args.self.now in
    let old = run.scene in
    let new = c.take.new.self in
    keeps-then old run.moves new 4294967295 c.took.new.self.scene c.took.new.self.moves
    (keeps-take old new run.moves 4294967295 c.take.ensures.ground (ap (λ (s : Scene). s.environment) c.take.ensures.becomes) c.take.ensures.names c.take.ensures.budget
    (left-stepped old new run.moves c.in-Token.ensures.spent (c.in-Token.ensures.within (omega arith)) c.take.ensures.budget))
    c.took.ensures.keeps

pub took-requires-clause-sound : goal.took-requires-clause-sound
took-requires-clause-sound c =
    subst (λ (e : State). IsSound (meanings c.args.format.now.frozen) e) (sym (ap (λ (s : Scene). s.environment) c.take.ensures.becomes)) c.requires.sound

-- a name came
pub returns-in-Name-clause-leads : goal.returns-in-Name-clause-leads
returns-in-Name-clause-leads c = λ g is r p.
    let run = c.args.self.now in
    let frozen = meanings c.args.format.now.frozen in
    let old = run.scene in
    let new = c.take.new.self in
    let depth = depth_of (opens g.view run) in
    let takes = subst (λ f. IsSomeAnd new.input.wanted (λ (text : List ℕ). taking_from (world g (meanings f) depth old) ≡ making (new_text text (world g (meanings f) depth new)) (present (world g (meanings f) depth old) (Name text)) (world g (meanings f) depth new))) c.frozen.ensures (c.in-Name.ensures.takes g depth is.ground) in
    takes-name g frozen (taking g.view c.args.taker run.frames run.command) (behind g.view c.args.taker run.frames run.command) depth new.input.wanted old new r (c.requires.room g frozen depth) takes p

pub returns-in-Name-clause-sound : goal.returns-in-Name-clause-sound
returns-in-Name-clause-sound c =
    ((subst (λ (e : State). IsSound (meanings c.args.format.now.frozen) e) (sym (ap (λ (s : Scene). s.environment) c.take.ensures.becomes)) c.requires.sound, c.in-Name.ensures.wanted), (c.requires.plain, c.requires.waits))

pub returns-in-Name-clause-keeps : goal.returns-in-Name-clause-keeps
returns-in-Name-clause-keeps c =
    let run = c.args.self.now in
    let old = run.scene in
    let new = c.take.new.self in
    keeps-take old new run.moves 4294967295 c.take.ensures.ground (ap (λ (s : Scene). s.environment) c.take.ensures.becomes) c.take.ensures.names c.take.ensures.budget
    (left-stepped old new run.moves c.in-Name.ensures.spent (c.in-Name.ensures.within (omega arith)) c.take.ensures.budget)

-- the text is at its end
pub returns-in-End-clause-leads : goal.returns-in-End-clause-leads
returns-in-End-clause-leads c = λ g is.
    let run = c.args.self.now in
    let frozen = meanings c.args.format.now.frozen in
    let old = run.scene in
    let new = c.take.new.self in
    let o = taking g.view c.args.taker run.frames run.command in
    let around = behind g.view c.args.taker run.frames run.command in
    let depth = depth_of (opens g.view run) in
    let none = subst (λ f. taking_from (world g (meanings f) depth old) ≡ Finds-none (world g (meanings f) depth new)) c.frozen.ensures (c.in-End.ensures.takes g depth is.ground) in
    leads-map (ComesEnded g frozen c.args.taker (record run { scene = new })) (Comes o around (private.Take (world_now g frozen run))) g frozen c.ended.result c.ended.new.self
    (λ r p. comes-end o around (world g frozen depth old) (world g frozen depth new) r (c.requires.room g frozen depth) none p)
    (c.ended.ensures.leads g (record { ground = c.take.ensures.ground g is.ground; lists = is.lists }))

pub returns-in-End-clause-keeps : goal.returns-in-End-clause-keeps
returns-in-End-clause-keeps c =
    let run = c.args.self.now in
    let old = run.scene in
    let new = c.take.new.self in
    keeps-then old run.moves new run.moves c.ended.new.self.scene c.ended.new.self.moves
    (keeps-take old new run.moves run.moves c.take.ensures.ground (ap (λ (s : Scene). s.environment) c.take.ensures.becomes) c.take.ensures.names c.take.ensures.budget
    (left-same old new run.moves c.in-End.ensures.spent c.take.ensures.budget))
    c.ended.ensures.keeps

pub ended-requires-clause-sound : goal.ended-requires-clause-sound
ended-requires-clause-sound c =
    subst (λ (e : State). IsSound (meanings c.args.format.now.frozen) e) (sym (ap (λ (s : Scene). s.environment) c.take.ensures.becomes)) c.requires.sound

-- no step is left
pub returns-in-Spent-clause-leads : goal.returns-in-Spent-clause-leads
returns-in-Spent-clause-leads c = λ g is.
    let run = c.args.self.now in
    let frozen = meanings c.args.format.now.frozen in
    let old = run.scene in
    let new = c.take.new.self in
    let depth = depth_of (opens g.view run) in
    let spends = subst (λ f. taking_from (world g (meanings f) depth old) ≡ Spends (world g (meanings f) depth old).output) c.frozen.ensures (c.in-Spent.ensures.takes g depth is.ground) in
    takes-none g frozen (taking g.view c.args.taker run.frames run.command) (behind g.view c.args.taker run.frames run.command) depth old new (c.requires.room g frozen depth) spends
    (ap (λ (s : Scene). s.log) c.take.ensures.becomes) (omega (arith, c.in-Spent.ensures.spent))

pub returns-in-Spent-clause-sound : goal.returns-in-Spent-clause-sound
returns-in-Spent-clause-sound c =
    subst (λ (e : State). IsFirst (meanings c.args.format.now.frozen) e) (sym (ap (λ (s : Scene). s.environment) c.take.ensures.becomes)) c.requires.sound.first

pub returns-in-Spent-clause-keeps : goal.returns-in-Spent-clause-keeps
returns-in-Spent-clause-keeps c =
    let run = c.args.self.now in
    let old = run.scene in
    let new = c.take.new.self in
    keeps-take old new run.moves run.moves c.take.ensures.ground (ap (λ (s : Scene). s.environment) c.take.ensures.becomes) c.take.ensures.names c.take.ensures.budget
    (left-same old new run.moves c.in-Spent.ensures.spent c.take.ensures.budget)

-- no token can be made of what is there
pub returns-in-Invalid-clause-leads : goal.returns-in-Invalid-clause-leads
returns-in-Invalid-clause-leads c = λ g is.
    let run = c.args.self.now in
    let frozen = meanings c.args.format.now.frozen in
    let old = run.scene in
    let new = c.take.new.self in
    let o = taking g.view c.args.taker run.frames run.command in
    let around = behind g.view c.args.taker run.frames run.command in
    let depth = depth_of (opens g.view run) in
    let error = numbered 2 0 (pos 0) in
    let breaks = subst (λ f. taking_from (world g (meanings f) depth old) ≡ Breaks (failure error (world g (meanings f) depth new))) c.frozen.ensures (c.in-Invalid.ensures.takes g depth is.ground) in
    leads-map (FailsNow frozen error g new) (Comes o around (private.Take (world_now g frozen run))) g frozen c.error.result c.error.new.self
    (λ r p. comes-broken o around (world g frozen depth old) (failure error (world g frozen depth new)) r (c.requires.room g frozen depth) breaks (p depth))
    (c.error.ensures.leads g (record { ground = c.take.ensures.ground g is.ground; lists = is.lists }))

pub returns-in-Invalid-clause-keeps : goal.returns-in-Invalid-clause-keeps
returns-in-Invalid-clause-keeps c =
    let run = c.args.self.now in
    let old = run.scene in
    let new = c.take.new.self in
    keeps-then old run.moves new run.moves c.error.new.self.scene c.error.new.self.moves
    (keeps-take old new run.moves run.moves c.take.ensures.ground (ap (λ (s : Scene). s.environment) c.take.ensures.becomes) c.take.ensures.names c.take.ensures.budget
    (left-same old new run.moves c.in-Invalid.ensures.spent c.take.ensures.budget))
    c.error.ensures.keeps

pub error-requires : goal.error-requires
error-requires c = record {
  first = subst (λ (e : State). IsFirst (meanings c.args.format.now.frozen) e) (sym (ap (λ (s : Scene). s.environment) c.take.ensures.becomes)) c.requires.sound.first;
}

-- memory was wanting
pub returns-in-Memory-clause-sound : goal.returns-in-Memory-clause-sound
returns-in-Memory-clause-sound c =
    subst (λ (e : State). IsFirst (meanings c.args.format.now.frozen) e) (sym (ap (λ (s : Scene). s.environment) c.take.ensures.becomes)) c.requires.sound.first

pub returns-in-Memory-clause-keeps : goal.returns-in-Memory-clause-keeps
returns-in-Memory-clause-keeps c =
    let run = c.args.self.now in
    let old = run.scene in
    let new = c.take.new.self in
    keeps-take old new run.moves run.moves c.take.ensures.ground (ap (λ (s : Scene). s.environment) c.take.ensures.becomes) c.take.ensures.names c.take.ensures.budget
    (left-same old new run.moves c.in-Memory.ensures.spent c.take.ensures.budget)

-- what is taken is known
pub returns-in-Token-clause-knows : goal.returns-in-Token-clause-knows
returns-in-Token-clause-knows c names format scene behind =
    let run = c.args.self.now in
    c.took.ensures.knows names format (c.take.ensures.knows names scene) (open-same names run.scene c.take.new.self run.frames run.command (ap (λ (s : Scene). s.environment) c.take.ensures.becomes) behind)
    (known-token (known_by names c.take.new.self) c.in-Token.token (c.in-Token.ensures.known names scene))

pub returns-in-Name-clause-knows : goal.returns-in-Name-clause-knows
returns-in-Name-clause-knows c names format scene behind =
    let run = c.args.self.now in
    let new : Run = record run { scene = c.take.new.self; doing = doing.Finds c.args.taker; moves = 4294967295 } in
    known-on names run.scene new (ap (λ (s : Scene). s.environment) c.take.ensures.becomes) (c.take.ensures.knows names scene) tt behind

pub returns-in-End-clause-knows : goal.returns-in-End-clause-knows
returns-in-End-clause-knows c names format scene behind =
    let run = c.args.self.now in
    c.ended.ensures.knows names format (c.take.ensures.knows names scene) (open-same names run.scene c.take.new.self run.frames run.command (ap (λ (s : Scene). s.environment) c.take.ensures.becomes) behind)

pub returns-in-Spent-clause-knows : goal.returns-in-Spent-clause-knows
returns-in-Spent-clause-knows c names format scene behind = c.take.ensures.knows names scene

pub returns-in-Invalid-clause-knows : goal.returns-in-Invalid-clause-knows
returns-in-Invalid-clause-knows c names format scene behind = c.error.ensures.knows names (c.take.ensures.knows names scene)

pub returns-in-Memory-clause-knows : goal.returns-in-Memory-clause-knows
returns-in-Memory-clause-knows c names format scene behind = c.take.ensures.knows names scene
