use Rattle.std.proofs.Common.{refl}
use Rattle.tx_input.specs.Worlds.{wanted_text}
use Rattle.tx_store.specs.Steps.{AfterIntern}
use Rattle.tx_engine.proofs.AnswerLemmas.{carries-on, ready-run}
use Rattle.tx_engine.proofs.AskedLemmas.{interned-wanted}
use Rattle.tx_engine.proofs.NameLemmas.{interned-goes}
use Rattle.tx_engine.proofs.engine.Engine.interned.Goals as goal

pub interned-requires-clause-wanted : goal.interned-requires-clause-wanted
interned-requires-clause-wanted c =
    let old = c.args.self.now in
    let ready = ready-run old c.requires.phase c.requires.ready.0 c.requires.ready.1 in
    (interned-wanted old.run.fallen old.run.doing c.requires.ready.0 old.run.scene c.requires.due ready.0).0

pub interned-requires-clause-room : goal.interned-requires-clause-room
interned-requires-clause-room c =
    let old = c.args.self.now in
    let ready = ready-run old c.requires.phase c.requires.ready.0 c.requires.ready.1 in
    (interned-wanted old.run.fallen old.run.doing c.requires.ready.0 old.run.scene c.requires.due ready.0).1

pub returns-clause-carries : goal.returns-clause-carries
returns-clause-carries c =
    let old = c.args.self.now in
    let new = record old { run = c.interned.new.self } in
    carries-on (λ before after. AfterIntern before (wanted_text old.run.scene.input) c.args.number after) old new c.requires.phase refl c.interned.ensures.keeps refl
    (λ earlier later after serves knows.
    interned-goes old new earlier later serves knows c.knows_more.ensures c.interned.ensures.holds refl c.args.number after c.interned.ensures.knows
    (λ g agrees ground named. c.interned.ensures.answers g ground named))
