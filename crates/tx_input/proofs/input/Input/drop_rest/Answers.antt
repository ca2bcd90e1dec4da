use Rattle.std.proofs.Common.{List, ◌∙◌, sym, ap}
use Rattle.tx_model.specs.Pending.{Member, line_number}
use Rattle.tx_views.specs.Views.{all_viewed}
use Rattle.tx_input.specs.Texts.{text_members, dropped}
use Rattle.tx_input.specs.Worlds.{input_in}
use Rattle.tx_input.proofs.TakingLemmas.{line-of-text, only-line-of-text, line-dropped, only-line-dropped, pending-none}
use Rattle.tx_input.proofs.input.Input.drop_rest.Goals as goal

pub returns-clause-world : goal.returns-clause-world
returns-clause-world c view formats base =
    let old = c.args.self.now in
    ap (λ (ms : List Member). record (input_in view formats base old) { pending = ms })
    (pending-none view c.clear.new.self c.drop_rest.new.text (dropped old.text) c.clear.ensures c.drop_rest.ensures
    ∙ sym (only-line-of-text (all_viewed view old.lists) (text_members old.text) ∙ only-line-dropped old.text))

pub returns-clause-line : goal.returns-clause-line
returns-clause-line c view =
    let old = c.args.self.now in
    ap line_number (pending-none view c.clear.new.self c.drop_rest.new.text (dropped old.text) c.clear.ensures c.drop_rest.ensures)
    ∙ line-dropped old.text
    ∙ sym (line-of-text (all_viewed view old.lists) (text_members old.text))
