use Rattle.std.proofs.Common.{refl}
use Rattle.tx_input.specs.Worlds.{wanted_text}
use Rattle.tx_store.specs.Steps.{AfterFind}
use Rattle.tx_engine.proofs.AnswerLemmas.{carries-on, ready-run}
use Rattle.tx_engine.proofs.AskedLemmas.{found-wanted}
use Rattle.tx_engine.proofs.NameLemmas.{found-goes}
use Rattle.tx_engine.proofs.engine.Engine.found.Goals as goal

pub found-requires-clause-wanted : goal.found-requires-clause-wanted
found-requires-clause-wanted c =
    let old = c.args.self.now in
    let ready = ready-run old c.requires.phase c.requires.ready.0 c.requires.ready.1 in
    found-wanted old.run.fallen old.run.doing c.requires.ready.0 old.run.scene c.requires.due ready.0

pub returns-clause-carries : goal.returns-clause-carries
returns-clause-carries c =
    let old = c.args.self.now in
    let new = record old { run = c.found.new.self } in
    carries-on (λ before after. AfterFind before (wanted_text old.run.scene.input) c.args.number after) old new c.requires.phase refl c.found.ensures.keeps refl
    (λ earlier later after serves knows.
    found-goes old new earlier later serves knows c.knows_more.ensures c.found.ensures.holds refl c.args.number after c.found.ensures.knows c.found.ensures.answers)
