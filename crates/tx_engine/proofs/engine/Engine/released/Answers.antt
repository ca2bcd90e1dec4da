use Rattle.std.proofs.Common.{refl}
use Rattle.tx_engine.proofs.ListLemmas.{released-carries}
use Rattle.tx_engine.proofs.engine.Engine.released.Goals as goal

pub returns-clause-carries : goal.returns-clause-carries
returns-clause-carries c =
    let old = c.args.self.now in
    let new = record old { run = c.released.new.self; references = c.saturating_sub-self.result } in
    released-carries old new c.requires.phase refl c.released.ensures.keeps refl c.saturating_sub-self.ensures
    c.knows_more.ensures c.released.ensures.knows c.released.ensures.holds c.released.ensures.answers c.same_run.ensures c.same_maps.ensures.before
