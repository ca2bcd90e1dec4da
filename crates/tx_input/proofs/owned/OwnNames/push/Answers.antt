use Rattle.std.proofs.Common.{◌≡◌, ◌+◌, ◌∷◌, nat_eq, None, reverse, ◌∙◌, ap}
use Rattle.indexmap.specs.IndexMap.{get}
use Rattle.indexmap.proofs.CallerLemmas.{insert_entry-new}
use Rattle.tx_input.specs.Owned.{Own, has_number}
use Rattle.tx_input.proofs.OwnedLemmas.{found-any, has-reversed, absent-of, reverse-last}
use Rattle.tx_input.proofs.owned.OwnNames.push.Goals as goal

pub returns-clause-ok : goal.returns-clause-ok
returns-clause-ok c =
    let ends = c.self.inside.ends in
    let n = c.args.number in
    let end = c.bytes.result + c.args.length in
    let none : get nat_eq ends n ≡ None =
    absent-of (get nat_eq ends n) (found-any ends.entries n ∙ has-reversed ends.entries n ∙ ap (has_number n) c.self.view_is ∙ c.requires.other) in
    ap reverse (c.in_ok-insert.ensures.entries ∙ insert_entry-new nat_eq ends n end none)
    ∙ reverse-last ends.entries (n, end)
    ∙ ap (λ (own : Own). (n, end) ∷ own) c.self.view_is
    ∙ ap (λ k. (n, k + c.args.length) ∷ c.args.self.now) c.bytes.ensures
