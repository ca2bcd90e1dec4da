use Rattle.std.proofs.Common.{sym, ap, ◌∙◌}
use Rattle.std.specs.Prelude.{option_and_then}
use Rattle.tx_prims.specs.Rows.{row_at}
use Rattle.tx_prims.proofs.Searches.{row_of-place_of}
use Rattle.tx_prims.proofs.Table.find.Goals as goal

pub returns-in-Some : goal.returns-in-Some
returns-in-Some g c =
    c.at.ensures
    ∙ sym (row_of-place_of c.args.self.now.rows.now c.args.key.now ∙ ap (option_and_then (λ k. row_at k c.args.self.now.rows.now)) (sym c.in-Some.ensures.place))

pub returns-in-None : goal.returns-in-None
returns-in-None g c =
    sym (row_of-place_of c.args.self.now.rows.now c.args.key.now ∙ ap (option_and_then (λ k. row_at k c.args.self.now.rows.now)) (sym c.in-None.ensures.place))
