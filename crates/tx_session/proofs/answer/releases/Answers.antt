use Rattle.tx_session.proofs.answer.releases.Goals as goal

-- the list is held once less
pub returns-clause-serves : goal.returns-clause-serves
returns-clause-serves g c =
    c.released.ensures.carries.serves (g.S.Store.session c.args.store.now) (g.S.Store.session c.release.new.self) (c.args.id, c.requires.due, c.release.ensures) c.is_sound.ensures c.requires.serves

pub returns-clause-stands : goal.returns-clause-stands
returns-clause-stands g c =
    c.released.ensures.carries.stands (g.S.Store.session c.args.store.now) (g.S.Store.session c.release.new.self) (c.args.id, c.requires.due, c.release.ensures) c.is_sound.ensures c.requires.serves
