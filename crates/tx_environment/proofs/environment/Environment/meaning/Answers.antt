use Rattle.std.proofs.Common.{ap, sym, subst, ◌∙◌}
use Rattle.tx_eqtb.specs.Meanings.{meanings}
use Rattle.tx_eqtb.specs.Tables.{now}
use Rattle.tx_save.specs.Saves.{groups, outside, all_held}
use Rattle.tx_views.specs.Places.{address_in, addr_of}
use Rattle.tx_views.specs.Meanings.{meaning_in}
use Rattle.tx_environment.specs.Holding.{pooled_of, IsHeldIn}
use Rattle.tx_environment.proofs.PlaceLemmas.{present-at}
use Rattle.tx_environment.proofs.LevelLemmas.{present-is}
use Rattle.tx_environment.proofs.HoldingLemmas.{now-held}
use Rattle.tx_environment.proofs.environment.Environment.meaning.Goals as goal

pub returns-clause-means : goal.returns-clause-means
returns-clause-means c view is =
    let over = c.self.inside.over in
    let save = c.self.inside.save in
    let frozen = meanings c.args.frozen.now in
    rw (← c.self.view_is) (
    ap (meaning_in view) (c.get.ensures ∙ ap (now frozen over) c.addr.ensures)
    ∙ sym (present-at view is (now frozen over) c.args.place)
    ∙ ap (λ f. f (address_in view c.args.place)) (sym (present-is view (now frozen over) (outside frozen over save) (groups save)))
    )

pub returns-clause-holds : goal.returns-clause-holds
returns-clause-holds c none =
    let over = c.self.inside.over in
    let save = c.self.inside.save in
    let frozen = meanings c.args.frozen.now in
    let is = c.get.ensures ∙ ap (now frozen over) c.addr.ensures in
    rw (← c.self.view_is) (subst (λ m. IsHeldIn (all_held over save) (pooled_of m)) (sym is) (now-held frozen over save none (addr_of c.args.place)))
