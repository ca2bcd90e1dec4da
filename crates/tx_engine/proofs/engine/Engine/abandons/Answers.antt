use Rattle.std.proofs.Common.{◌≡◌, ◌<◌, sym, ap, subst, ◌∙◌}
use Rattle.tx_environment.specs.States.{State}
use Rattle.tx_environment.specs.Soundness.{IsFirst}
use Rattle.tx_input.specs.declared.input.Input.{Input}
use Rattle.tx_input.specs.Worlds.{IsOf, KnowsInput}
use Rattle.tx_engine.specs.declared.engine.Engine.{Engine}
use Rattle.tx_engine.specs.declared.engine.Phase.TheVariants as phase
use Rattle.tx_engine.specs.declared.step.Back.{Back}
use Rattle.tx_engine.specs.Standing.{IsReady}
use Rattle.tx_engine.specs.Steps.{Backs, IsLessLeft, left_behind}
use Rattle.tx_engine.proofs.BehindLemmas.{less-as, abandons-was, abandons-one, abandons-ready, abandons-less, given_back, rests-ready, rests-back}
use Rattle.tx_engine.proofs.engine.Engine.abandons.Goals as goal

-- an entry falls away, or a group
pub returns-in-Some-clause-backs : goal.returns-in-Some-clause-backs
returns-in-Some-clause-backs c =
    abandons-one c.args.self.now c.abandon.new.self c.args.ended c.requires.phase c.same_maps.ensures.now c.same_maps.ensures.before
    (abandons-was c.args.self.now c.abandon.new.self c.args.ended c.requires.phase c.requires.ready.0 c.requires.ready.1).0
    c.in-Some.step c.fallen.result c.releases.new.self.references c.releases.result c.releases.new.self
    c.abandon.ensures.before c.in-Some.ensures.step c.in-Some.ensures.held c.fallen.ensures c.releases.ensures.becomes c.releases.ensures.references c.releases.ensures.result

pub returns-in-Some-clause-ready : goal.returns-in-Some-clause-ready
returns-in-Some-clause-ready c frozen ready =
    subst (λ (e : Engine). IsReady frozen e) (sym c.releases.ensures.becomes)
    (abandons-ready c.args.self.now c.abandon.new.self c.args.ended c.requires.phase frozen c.releases.new.self.references (c.abandon.ensures.first frozen) (ap (λ (x : State). x.table) c.abandon.ensures.others) ready)

pub returns-in-Some-clause-fewer : goal.returns-in-Some-clause-fewer
returns-in-Some-clause-fewer c =
    less-as c.fallen.result c.releases.result c.args.self.now c.releases.new.self c.releases.ensures.result
    (subst (λ (e : Engine). left_behind e < left_behind c.args.self.now) (sym c.releases.ensures.becomes)
    (abandons-less c.args.self.now c.abandon.new.self c.args.ended c.requires.phase c.releases.new.self.references (ap (λ (x : State). x.table) c.abandon.ensures.others) c.in-Some.ensures.fewer))

-- or nothing is left of them
pub given_back-requires-clause-journal : goal.given_back-requires-clause-journal
given_back-requires-clause-journal c =
    ap (λ (x : State). x.table.journal) c.in-None.ensures.unchanged
    ∙ (abandons-was c.args.self.now c.abandon.new.self c.args.ended c.requires.phase c.requires.ready.0 c.requires.ready.1).2

pub given_back-requires-clause-saves : goal.given_back-requires-clause-saves
given_back-requires-clause-saves c = c.in-None.ensures.end

pub returns-in-None-clause-backs : goal.returns-in-None-clause-backs
returns-in-None-clause-backs c =
    let old = c.args.self.now in
    let e = c.given_back.new.self in
    let unchanged = c.in-None.ensures.unchanged in
    let table = ap (λ (x : State). x.table) c.given_back.ensures.others ∙ ap (λ (x : State). x.table) unchanged in
    let saves = ap (λ (x : State). x.saves) c.given_back.ensures.others ∙ ap (λ (x : State). x.saves) unchanged in
    let stack = ap (λ (x : State). x.saves.stack) (sym unchanged) ∙ c.in-None.ensures.end in
    let was = abandons-was old c.abandon.new.self c.args.ended c.requires.phase c.requires.ready.0 c.requires.ready.1 in
    let becomes : c.rests.new.self ≡ given_back old e =
    c.rests.ensures.becomes ∙ ap (λ (x : Input). record old { run = record old.run { scene = record old.run.scene { environment = e; input = x } }; phase = phase.Idle }) c.give_back.ensures.becomes in
    subst (λ (n : Engine). Backs c.rests.result old n) (sym becomes)
    (subst (λ (b : Back). Backs b old (given_back old e)) (sym c.rests.ensures.result)
    (rests-back old e c.args.ended c.requires.phase table saves stack was.0 was.2
    (λ names h. subst (λ (x : Input). KnowsInput names x) c.give_back.ensures.becomes (c.give_back.ensures.knows names h))
    (λ formats view h. subst (λ (x : Input). IsOf formats view x) c.give_back.ensures.becomes (c.give_back.ensures.view formats view h))))

pub returns-in-None-clause-ready : goal.returns-in-None-clause-ready
returns-in-None-clause-ready c frozen ready =
    let old = c.args.self.now in
    let e = c.given_back.new.self in
    let unchanged = c.in-None.ensures.unchanged in
    let table = ap (λ (x : State). x.table) c.given_back.ensures.others ∙ ap (λ (x : State). x.table) unchanged in
    let saves = ap (λ (x : State). x.saves) c.given_back.ensures.others ∙ ap (λ (x : State). x.saves) unchanged in
    let stack = ap (λ (x : State). x.saves.stack) (sym unchanged) ∙ c.in-None.ensures.end in
    let becomes : c.rests.new.self ≡ given_back old e =
    c.rests.ensures.becomes ∙ ap (λ (x : Input). record old { run = record old.run { scene = record old.run.scene { environment = e; input = x } }; phase = phase.Idle }) c.give_back.ensures.becomes in
    subst (λ (n : Engine). IsReady frozen n) (sym becomes)
    (rests-ready old e c.args.ended c.requires.phase table saves stack frozen (λ first. (c.given_back.ensures.sound frozen (subst (λ (x : State). IsFirst frozen x) (sym unchanged) first)).present) ready)

pub returns-in-None-clause-fewer : goal.returns-in-None-clause-fewer
returns-in-None-clause-fewer c = subst (λ (b : Back). IsLessLeft b c.args.self.now c.rests.new.self) (sym c.rests.ensures.result) tt
