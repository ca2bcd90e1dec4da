use Rattle.std.proofs.Common.{sym, subst}
use Rattle.tx_run.specs.declared.op.Tick.TheVariants as tick
use Rattle.tx_engine.specs.declared.step.End.TheVariants as end
use Rattle.tx_engine.specs.Standing.{Stands}
use Rattle.tx_engine.proofs.TickLemmas.{serves-going, serves-ended, back-kept, runs-of, stands-of, LeadsOver, runs-on, came-to-end, came-to-fail, came-to-spent}
use Rattle.tx_engine.proofs.engine.Engine.tick.Goals as goal

-- the region goes on
pub returns-in-Went-clause-serves : goal.returns-in-Went-clause-serves
returns-in-Went-clause-serves c session is serves =
    serves-going session c.args.format.now is c.args.self.now c.requires.phase serves c.tick.new.self c.tick.ensures.keeps c.tick.ensures.holds c.in-Went.ensures.knows

pub returns-in-Went-clause-stands : goal.returns-in-Went-clause-stands
returns-in-Went-clause-stands c session s preamble text budget is serves stands =
    let old = c.args.self.now in
    let run = c.tick.new.self in
    let runs = runs-of session old s preamble text budget c.requires.phase stands in
    stands-of session (record old { run = run }) s preamble text budget c.requires.phase
    (runs-on session old s preamble text budget serves runs run (subst (LeadsOver old.run tick.Went run) (sym is) c.in-Went.ensures.leads) c.tick.ensures.keeps.before c.tick.ensures.keeps.names)

-- or an operation is asked for
pub returns-in-Ask-clause-serves : goal.returns-in-Ask-clause-serves
returns-in-Ask-clause-serves c session is serves =
    c.asks.ensures.serves session
    (serves-going session c.args.format.now is c.args.self.now c.requires.phase serves c.tick.new.self c.tick.ensures.keeps c.tick.ensures.holds c.in-Ask.ensures.knows)

pub returns-in-Ask-clause-stands : goal.returns-in-Ask-clause-stands
returns-in-Ask-clause-stands c session s preamble text budget is serves stands =
    let old = c.args.self.now in
    let run = c.tick.new.self in
    let runs = runs-of session old s preamble text budget c.requires.phase stands in
    c.asks.ensures.stands session s preamble text budget
    (serves-going session c.args.format.now is old c.requires.phase serves run c.tick.ensures.keeps c.tick.ensures.holds c.in-Ask.ensures.knows)
    (stands-of session (record old { run = run }) s preamble text budget c.requires.phase
    (runs-on session old s preamble text budget serves runs run (subst (LeadsOver old.run (tick.Ask c.in-Ask.operation) run) (sym is) c.in-Ask.ensures.leads) c.tick.ensures.keeps.before c.tick.ensures.keeps.names))

-- it has come to its end
pub returns-in-Done-clause-serves : goal.returns-in-Done-clause-serves
returns-in-Done-clause-serves c session is serves =
    serves-ended session c.args.format.now is c.args.self.now c.requires.phase serves c.tick.new.self c.tick.ensures.keeps c.tick.ensures.holds end.Done c.ends.new.self c.ends.ensures.becomes c.in-Done.ensures.knows

pub returns-in-Done-clause-stands : goal.returns-in-Done-clause-stands
returns-in-Done-clause-stands c session s preamble text budget is serves stands =
    let old = c.args.self.now in
    let run = c.tick.new.self in
    let runs = runs-of session old s preamble text budget c.requires.phase stands in
    subst (λ e. Stands session e s preamble text budget) (sym c.ends.ensures.becomes)
    (came-to-end session old s preamble text budget serves runs run (subst (LeadsOver old.run tick.Done run) (sym is) c.in-Done.ensures.leads) c.in-Done.ensures.sound.1)

-- an error has ended it
pub returns-in-Failed-clause-serves : goal.returns-in-Failed-clause-serves
returns-in-Failed-clause-serves c session is serves =
    serves-ended session c.args.format.now is c.args.self.now c.requires.phase serves c.tick.new.self c.tick.ensures.keeps c.tick.ensures.holds end.Failed c.ends-in-Failed.new.self c.ends-in-Failed.ensures.becomes c.in-Failed.ensures.knows

pub returns-in-Failed-clause-stands : goal.returns-in-Failed-clause-stands
returns-in-Failed-clause-stands c session s preamble text budget is serves stands =
    let old = c.args.self.now in
    let run = c.tick.new.self in
    let runs = runs-of session old s preamble text budget c.requires.phase stands in
    subst (λ e. Stands session e s preamble text budget) (sym c.ends-in-Failed.ensures.becomes) (
      came-to-fail session old s preamble text budget serves runs run (subst (LeadsOver old.run tick.Failed run) (sym is) c.in-Failed.ensures.leads),
      back-kept session old.names s old.run.scene run.scene c.tick.ensures.keeps.before c.tick.ensures.keeps.names runs.back,
    )

-- no step was left
pub returns-in-Spent-clause-serves : goal.returns-in-Spent-clause-serves
returns-in-Spent-clause-serves c session is serves =
    serves-ended session c.args.format.now is c.args.self.now c.requires.phase serves c.tick.new.self c.tick.ensures.keeps c.tick.ensures.holds end.Spent c.ends-in-Spent.new.self c.ends-in-Spent.ensures.becomes c.in-Spent.ensures.knows

pub returns-in-Spent-clause-stands : goal.returns-in-Spent-clause-stands
returns-in-Spent-clause-stands c session s preamble text budget is serves stands =
    let old = c.args.self.now in
    let run = c.tick.new.self in
    let runs = runs-of session old s preamble text budget c.requires.phase stands in
    subst (λ e. Stands session e s preamble text budget) (sym c.ends-in-Spent.ensures.becomes) (
      came-to-spent session old s preamble text budget serves runs run (subst (LeadsOver old.run tick.Spent run) (sym is) c.in-Spent.ensures.leads),
      back-kept session old.names s old.run.scene run.scene c.tick.ensures.keeps.before c.tick.ensures.keeps.names runs.back,
    )

-- memory was wanting
pub returns-in-Memory-clause-serves : goal.returns-in-Memory-clause-serves
returns-in-Memory-clause-serves c session is serves =
    serves-ended session c.args.format.now is c.args.self.now c.requires.phase serves c.tick.new.self c.tick.ensures.keeps c.tick.ensures.holds end.Memory c.ends-in-Memory.new.self c.ends-in-Memory.ensures.becomes c.in-Memory.ensures.knows

pub returns-in-Memory-clause-stands : goal.returns-in-Memory-clause-stands
returns-in-Memory-clause-stands c session s preamble text budget is serves stands =
    let old = c.args.self.now in
    let run = c.tick.new.self in
    let runs = runs-of session old s preamble text budget c.requires.phase stands in
    subst (λ e. Stands session e s preamble text budget) (sym c.ends-in-Memory.ensures.becomes)
    (back-kept session old.names s old.run.scene run.scene c.tick.ensures.keeps.before c.tick.ensures.keeps.names runs.back)
