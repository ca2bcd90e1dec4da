use Rattle.std.proofs.Common.{◌<◌, sym, ap, subst}
use Rattle.tx_environment.specs.States.{State}
use Rattle.tx_engine.specs.declared.engine.Engine.{Engine}
use Rattle.tx_engine.specs.declared.step.Back.{Back}
use Rattle.tx_engine.specs.Standing.{IsReady}
use Rattle.tx_engine.specs.declared.engine.Phase.TheVariants as phase
use Rattle.tx_engine.specs.Steps.{Backs, IsLessLeft, left_behind}
use Rattle.tx_engine.proofs.BehindLemmas.{less-as, keeps-one, keeps-ready, keeps-less, keeps-last, keeps-ready-last}
use Rattle.tx_engine.proofs.engine.Engine.keeps.Goals as goal

-- a list is released
pub returns-in-Some-clause-backs : goal.returns-in-Some-clause-backs
returns-in-Some-clause-backs c =
    keeps-one c.args.self.now c.keep.new.self c.requires.phase (ap (λ (x : State). x.saves) c.keep.ensures.others) c.same_maps.ensures.now c.same_maps.ensures.before c.in-Some.meaning c.pooled.result c.releases.new.self.references c.releases.result c.releases.new.self
    c.keep.ensures.now c.in-Some.ensures.held c.pooled.ensures c.releases.ensures.becomes c.releases.ensures.references c.releases.ensures.result

pub returns-in-Some-clause-ready : goal.returns-in-Some-clause-ready
returns-in-Some-clause-ready c frozen ready =
    subst (λ (e : Engine). IsReady frozen e) (sym c.releases.ensures.becomes)
    (keeps-ready c.args.self.now c.keep.new.self c.requires.phase (ap (λ (x : State). x.saves) c.keep.ensures.others) frozen c.releases.new.self.references (c.keep.ensures.present frozen) ready)

pub returns-in-Some-clause-fewer : goal.returns-in-Some-clause-fewer
returns-in-Some-clause-fewer c =
    less-as c.pooled.result c.releases.result c.args.self.now c.releases.new.self c.releases.ensures.result
    (subst (λ (e : Engine). left_behind e < left_behind c.args.self.now) (sym c.releases.ensures.becomes)
    (keeps-less c.args.self.now c.keep.new.self c.requires.phase (ap (λ (x : State). x.saves) c.keep.ensures.others) c.releases.new.self.references c.in-Some.ensures.fewer))

-- or all is kept
pub returns-in-None-clause-backs : goal.returns-in-None-clause-backs
returns-in-None-clause-backs c =
    subst (λ (e : Engine). Backs c.rests.result c.args.self.now e) (sym c.rests.ensures.becomes)
    (subst (λ (b : Back). Backs b c.args.self.now (record c.args.self.now { run = record c.args.self.now.run { scene = record c.args.self.now.run.scene { environment = c.keep.new.self } }; phase = phase.Idle })) (sym c.rests.ensures.result)
    (keeps-last c.args.self.now c.keep.new.self c.requires.phase (ap (λ (x : State). x.saves) c.keep.ensures.others) c.keep.ensures.now c.in-None.ensures.held))

pub returns-in-None-clause-ready : goal.returns-in-None-clause-ready
returns-in-None-clause-ready c frozen ready =
    subst (λ (e : Engine). IsReady frozen e) (sym c.rests.ensures.becomes)
    (keeps-ready-last c.args.self.now c.keep.new.self c.requires.phase (ap (λ (x : State). x.saves) c.keep.ensures.others) frozen (c.keep.ensures.present frozen) c.in-None.ensures.end ready)

pub returns-in-None-clause-fewer : goal.returns-in-None-clause-fewer
returns-in-None-clause-fewer c = subst (λ (b : Back). IsLessLeft b c.args.self.now c.rests.new.self) (sym c.rests.ensures.result) tt
