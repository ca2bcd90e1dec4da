use Rattle.tx_environment.specs.States.{State}
use Rattle.std.proofs.Common.{sym, subst, refl, ap, ◌∙◌, reverse}
use Rattle.std.specs.Vec.{with_items}
use Rattle.std.proofs.lemmas.List.{with_items_is}
use Rattle.tx_eqtb.specs.Steps.{Sets}
use Rattle.tx_save.specs.Saves.{ChangesOutside}
use Rattle.tx_environment.specs.Soundness.{IsSound}
use Rattle.tx_environment.specs.Changes.{IsGiven, IsGivenAround}
use Rattle.tx_environment.proofs.StepLemmas.{assigned, assigned-sound}
use Rattle.tx_environment.proofs.environment.Environment.assign.Goals as goal

pub returns-clause-assigned : goal.returns-clause-assigned
returns-clause-assigned c =
    let over = c.self.inside.over in
    let save = c.self.inside.save in
    let sets = subst (λ at. Sets over at c.args.meaning c.assign.new.over) c.addr.ensures c.in_ok-out.ensures.now in
    let changes = subst (λ at. ChangesOutside c.args.global at c.args.meaning over save c.assign.new.over c.assign.new.self) c.addr.ensures c.in_ok-out.ensures.outside in
    rw (← c.self.view_is) (assigned c.args.place c.args.meaning c.args.global over c.assign.new.over save c.assign.new.self sets changes c.in_ok-out.ensures.groups)

pub returns-clause-sound : goal.returns-clause-sound
returns-clause-sound c frozen sound =
    let over = c.self.inside.over in
    let save = c.self.inside.save in
    let sets = subst (λ at. Sets over at c.args.meaning c.assign.new.over) c.addr.ensures c.in_ok-out.ensures.now in
    let changes = subst (λ at. ChangesOutside c.args.global at c.args.meaning over save c.assign.new.over c.assign.new.self) c.addr.ensures c.in_ok-out.ensures.outside in
    let given = subst (λ k. IsGiven c.args.place k c.self.inside.cats c.give.new.cats) c.category_of-category.ensures c.give.ensures in
    let around = subst (λ k. IsGivenAround c.args.global c.args.place k c.as_mut_slice.result.now c.give_around.new.tables) c.category_of-category.ensures c.give_around.ensures in
    let inside = c.self.inside in
    let tables_are = with_items_is inside.outer c.give_around.new.tables (c.give_around.auto.tables ∙ c.as_mut_slice.ensures.len) in
    let old : State = record { table = over; saves = save; cats = inside.cats; outer = reverse inside.outer.items; first = inside.first } in
    let new : State = record { table = c.assign.new.over; saves = c.assign.new.self; cats = c.give.new.cats; outer = reverse (with_items inside.outer c.give_around.new.tables).items; first = inside.first } in
    assigned-sound c.args.place c.args.meaning c.args.global old new frozen sets changes c.in_ok-out.ensures.before c.in_ok-out.ensures.fits given refl c.as_mut_slice.result.now c.give_around.new.tables (sym (ap reverse c.as_mut_slice.ensures.value)) (ap reverse tables_are) around (subst (IsSound frozen) (sym c.self.view_is) sound)
