use Rattle.std.proofs.Common.{ℕ, List, [], unwrap_or, option_copied, sym, subst, ap, ◌∙◌}
use Rattle.tx_store.specs.Steps.{AfterFind}
use Rattle.tx_session.proofs.answer.finds.Goals as goal

-- the text that was looked for is that of the name that was taken
pub returns-clause-serves : goal.returns-clause-serves
returns-clause-serves g c =
    let session = g.S.Store.session in
    let before = session c.args.store.now in
    let after = session c.find-number.new.self in
    c.found.ensures.carries.serves before after
    (subst (λ (text : List ℕ). AfterFind before text c.find-number.result after) (ap (λ o. unwrap_or (option_copied o) []) (sym c.unwrap-text.ensures) ∙ ap (λ o. unwrap_or o []) c.name.ensures) c.find-number.ensures)
    c.is_sound.ensures c.requires.serves

pub returns-clause-stands : goal.returns-clause-stands
returns-clause-stands g c =
    let session = g.S.Store.session in
    let before = session c.args.store.now in
    let after = session c.find-number.new.self in
    c.found.ensures.carries.stands before after
    (subst (λ (text : List ℕ). AfterFind before text c.find-number.result after) (ap (λ o. unwrap_or (option_copied o) []) (sym c.unwrap-text.ensures) ∙ ap (λ o. unwrap_or o []) c.name.ensures) c.find-number.ensures)
    c.is_sound.ensures c.requires.serves
