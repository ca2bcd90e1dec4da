use Rattle.tx_session.proofs.SessionLemmas.{rests-as}
use Rattle.tx_session.proofs.region.run_region.Goals as goal

-- the state that is kept is one state
pub returns-clause-rests : goal.returns-clause-rests
returns-clause-rests g c s rests =
    let e = c.args.engine.now in
    rests-as (g.S.Store.session c.settles.new.store) c.settles.new.engine c.settles.result s e.preamble c.args.text c.args.budget c.one_outcome.ensures
    (c.settles.ensures.answered s e.preamble c.args.text c.args.budget (c.goes.ensures.stands s e.preamble c.args.text c.args.budget (c.begin.ensures.stands (g.S.Store.session c.args.store.now) s c.requires.serves rests)))
