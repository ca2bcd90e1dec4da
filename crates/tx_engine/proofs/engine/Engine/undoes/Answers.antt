use Rattle.std.proofs.Common.{◌<◌, sym, ap, subst}
use Rattle.tx_environment.specs.States.{State}
use Rattle.tx_engine.specs.declared.engine.Engine.{Engine}
use Rattle.tx_engine.specs.Standing.{IsReady}
use Rattle.tx_engine.specs.Steps.{left_behind}
use Rattle.tx_engine.proofs.BehindLemmas.{less-as, undoes-was, undoes-one, undoes-ready, undoes-less, undoes-last, undoes-ready-last, undoes-less-last}
use Rattle.tx_engine.proofs.engine.Engine.undoes.Goals as goal

-- a list is released
pub returns-in-Some-clause-backs : goal.returns-in-Some-clause-backs
returns-in-Some-clause-backs c =
    let saves = ap (λ (x : State). x.saves) c.undo.ensures.others in
    undoes-one c.args.self.now c.undo.new.self c.args.ended c.requires.phase saves c.same_maps.ensures.now c.same_maps.ensures.before
    (undoes-was c.args.self.now c.undo.new.self c.args.ended c.requires.phase saves c.requires.ready.0 c.requires.ready.1).0
    c.in-Some.meaning c.pooled.result c.releases.new.self.references c.releases.result c.releases.new.self
    c.undo.ensures.before c.in-Some.ensures.held c.pooled.ensures c.releases.ensures.becomes c.releases.ensures.references c.releases.ensures.result

pub returns-in-Some-clause-ready : goal.returns-in-Some-clause-ready
returns-in-Some-clause-ready c frozen ready =
    subst (λ (e : Engine). IsReady frozen e) (sym c.releases.ensures.becomes)
    (undoes-ready c.args.self.now c.undo.new.self c.args.ended c.requires.phase (ap (λ (x : State). x.saves) c.undo.ensures.others) frozen c.releases.new.self.references (c.undo.ensures.first frozen) ready)

pub returns-in-Some-clause-fewer : goal.returns-in-Some-clause-fewer
returns-in-Some-clause-fewer c =
    less-as c.pooled.result c.releases.result c.args.self.now c.releases.new.self c.releases.ensures.result
    (subst (λ (e : Engine). left_behind e < left_behind c.args.self.now) (sym c.releases.ensures.becomes)
    (undoes-less c.args.self.now c.undo.new.self c.args.ended c.requires.phase (ap (λ (x : State). x.saves) c.undo.ensures.others) c.releases.new.self.references c.in-Some.ensures.fewer))

-- or all is undone
pub returns-in-None-clause-backs : goal.returns-in-None-clause-backs
returns-in-None-clause-backs c =
    let saves = ap (λ (x : State). x.saves) c.undo.ensures.others in
    undoes-last c.args.self.now c.undo.new.self c.args.ended c.requires.phase saves c.same_maps.ensures.now c.same_maps.ensures.before
    (undoes-was c.args.self.now c.undo.new.self c.args.ended c.requires.phase saves c.requires.ready.0 c.requires.ready.1).0 c.undo.ensures.before c.in-None.ensures.held

pub returns-in-None-clause-ready : goal.returns-in-None-clause-ready
returns-in-None-clause-ready c frozen ready =
    undoes-ready-last c.args.self.now c.undo.new.self c.args.ended c.requires.phase (ap (λ (x : State). x.saves) c.undo.ensures.others) frozen (c.undo.ensures.first frozen) c.in-None.ensures.end ready

pub returns-in-None-clause-fewer : goal.returns-in-None-clause-fewer
returns-in-None-clause-fewer c =
    undoes-less-last c.args.self.now c.undo.new.self c.args.ended c.requires.phase (ap (λ (x : State). x.saves) c.undo.ensures.others) c.in-None.ensures.end
