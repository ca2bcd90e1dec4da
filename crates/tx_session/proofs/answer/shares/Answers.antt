use Rattle.std.proofs.Common.{option_copied, sym, ap, ◌∙◌}
use Rattle.tx_session.proofs.answer.shares.Goals as goal

-- the list that is shared is the one that was to be
pub returns-in-Ok-clause-serves : goal.returns-in-Ok-clause-serves
returns-in-Ok-clause-serves g c =
    let session = g.S.Store.session in
    c.shared.ensures.carries.serves (session c.args.store.now) (session c.share-shared.new.self)
    (c.unwrap-list.result.now, sym c.list.ensures ∙ ap option_copied c.unwrap-list.ensures, c.in-Ok.ensures.ok)
    c.is_sound.ensures c.requires.serves

pub returns-in-Ok-clause-stands : goal.returns-in-Ok-clause-stands
returns-in-Ok-clause-stands g c =
    let session = g.S.Store.session in
    c.shared.ensures.carries.stands (session c.args.store.now) (session c.share-shared.new.self)
    (c.unwrap-list.result.now, sym c.list.ensures ∙ ap option_copied c.unwrap-list.ensures, c.in-Ok.ensures.ok)
    c.is_sound.ensures c.requires.serves
