use Rattle.std.proofs.Common.{reverse}
use Rattle.tx_environment.specs.States.{State}
use Rattle.tx_environment.proofs.StepLemmas.{closed-is, ends-is}
use Rattle.tx_environment.proofs.environment.Environment.close.Goals as goal

pub returns-clause-closes : goal.returns-clause-closes
returns-clause-closes c =
    let inside = c.self.inside in
    let old : State = record { table = inside.over; saves = inside.save; cats = inside.cats; outer = reverse inside.outer.items; first = inside.first } in
    let new : State = record { table = c.close-step.new.over; saves = c.close-step.new.self; cats = c.leave.new.cats; outer = reverse c.leave.new.outer.items; first = inside.first } in
    rw (← c.self.view_is) (closed-is c.close-step.result old new c.close-step.ensures.closes)

pub returns-clause-ends : goal.returns-clause-ends
returns-clause-ends c =
    let inside = c.self.inside in
    let old : State = record { table = inside.over; saves = inside.save; cats = inside.cats; outer = reverse inside.outer.items; first = inside.first } in
    let new : State = record { table = c.close-step.new.over; saves = c.close-step.new.self; cats = c.leave.new.cats; outer = reverse c.leave.new.outer.items; first = inside.first } in
    rw (← c.self.view_is) (ends-is c.close-step.result old new c.close-step.ensures.closes)
