use Rattle.std.proofs.Common.{◌<◌, Some, sym, subst}
use Rattle.tx_engine.specs.declared.engine.Engine.{Engine}
use Rattle.tx_engine.specs.declared.engine.Phase.{Phase}
use Rattle.tx_engine.specs.declared.step.Back.TheVariants as back
use Rattle.tx_engine.specs.Standing.{IsReady, IsReadyIn}
use Rattle.tx_engine.specs.Steps.{Backs, left_behind}
use Rattle.tx_engine.proofs.BehindLemmas.{engine_of, less-as, drops-one, drops-last, drops-ready, drops-ready-last, drops-less, drops-less-last}
use Rattle.tx_engine.proofs.engine.Engine.drops.Goals as goal

-- a list is released
pub returns-in-Some-clause-backs : goal.returns-in-Some-clause-backs
returns-in-Some-clause-backs c =
    drops-one c.args.self.now c.args.ended c.requires.phase c.falls.new.self c.falls.ensures.scene c.same_maps.ensures.now c.same_maps.ensures.before c.in-Some.id c.releases.new.self.references c.releases.result c.releases.new.self
    c.in-Some.ensures.holds c.releases.ensures.becomes c.releases.ensures.references c.releases.ensures.result

pub returns-in-Some-clause-ready : goal.returns-in-Some-clause-ready
returns-in-Some-clause-ready c frozen ready =
    subst (λ (e : Engine). IsReady frozen e) (sym c.releases.ensures.becomes) (drops-ready c.args.self.now c.args.ended c.requires.phase c.falls.new.self c.falls.ensures.scene frozen c.releases.new.self.references ready)

pub returns-in-Some-clause-fewer : goal.returns-in-Some-clause-fewer
returns-in-Some-clause-fewer c =
    less-as (Some c.in-Some.id) c.releases.result c.args.self.now c.releases.new.self c.releases.ensures.result
    (subst (λ (e : Engine). left_behind e < left_behind c.args.self.now) (sym c.releases.ensures.becomes) (drops-less c.args.self.now c.args.ended c.requires.phase c.falls.new.self c.falls.ensures.scene c.releases.new.self.references c.in-Some.ensures.fewer))

-- or none is left
pub returns-in-None-clause-backs : goal.returns-in-None-clause-backs
returns-in-None-clause-backs c =
    subst (λ (p : Phase). Backs back.Went c.args.self.now (engine_of c.args.self.now c.falls.new.self c.args.self.now.references p)) (sym c.behind-self.ensures)
    (drops-last c.args.self.now c.args.ended c.requires.phase c.falls.new.self c.falls.ensures.scene c.same_maps.ensures.now c.same_maps.ensures.before c.in-None.ensures.holds)

pub returns-in-None-clause-ready : goal.returns-in-None-clause-ready
returns-in-None-clause-ready c frozen ready =
    subst (λ (p : Phase). IsReadyIn frozen p c.falls.new.self) (sym c.behind-self.ensures)
    (drops-ready-last c.args.self.now c.args.ended c.requires.phase c.falls.new.self c.falls.ensures.scene frozen c.in-None.ensures.empty ready)

pub returns-in-None-clause-fewer : goal.returns-in-None-clause-fewer
returns-in-None-clause-fewer c =
    subst (λ (p : Phase). left_behind (engine_of c.args.self.now c.falls.new.self c.args.self.now.references p) < left_behind c.args.self.now) (sym c.behind-self.ensures)
    (drops-less-last c.args.self.now c.args.ended c.requires.phase c.falls.new.self c.falls.ensures.scene)
