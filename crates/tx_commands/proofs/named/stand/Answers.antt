use Rattle.std.proofs.Common.{rules, FitsSigned, w32}
use Rattle.std.proofs.lemmas.Int.{to_z-of_z}
use Rattle.tx_private.specs.Assignments.{assigns}
use Rattle.tx_views.specs.Places.{address_in}
use Rattle.tx_assign.specs.Assigned.{prefixes_in}
use Rattle.tx_commands.proofs.named.stand.Goals as goal

pub returns-in-Ok-clause-becomes : goal.returns-in-Ok-clause-becomes
returns-in-Ok-clause-becomes c =
    let f : FitsSigned w32 c.args.n = search rules in
    λ view w. simp to_z-of_z at (c.in-Ok.ensures.leads view (λ m. assigns (prefixes_in c.args.prefixes) (address_in view c.args.place) m w) w)

pub returns-in-Ok-clause-knows : goal.returns-in-Ok-clause-knows
returns-in-Ok-clause-knows c = λ known k i. (k.0, c.in-Ok.ensures.knows known)

pub returns-in-Err-clause-becomes : goal.returns-in-Err-clause-becomes
returns-in-Err-clause-becomes c =
    let f : FitsSigned w32 c.args.n = search rules in
    λ view w. simp to_z-of_z at (c.in-Err.ensures.leads view (λ m. assigns (prefixes_in c.args.prefixes) (address_in view c.args.place) m w) w)
