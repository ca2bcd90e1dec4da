use Rattle.tx_session.proofs.answer.takes.Goals as goal

-- the list is held once more
pub returns-clause-serves : goal.returns-clause-serves
returns-clause-serves g c =
    c.took_list.ensures.carries.serves (g.S.Store.session c.args.store.now) (g.S.Store.session c.take.new.self) (c.args.id, c.requires.due, c.take.ensures) c.is_sound.ensures c.requires.serves

pub returns-clause-stands : goal.returns-clause-stands
returns-clause-stands g c =
    c.took_list.ensures.carries.stands (g.S.Store.session c.args.store.now) (g.S.Store.session c.take.new.self) (c.args.id, c.requires.due, c.take.ensures) c.is_sound.ensures c.requires.serves
