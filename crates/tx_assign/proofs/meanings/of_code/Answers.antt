use Rattle.std.proofs.Common.{rules, FitsSigned, w32}
use Rattle.std.proofs.lemmas.Int.{to_z-of_z}
use Rattle.tx_assign.proofs.meanings.of_code.Goals as goal

pub returns-in-Int-clause-category : goal.returns-in-Int-clause-category
returns-in-Int-clause-category c =
    let f : FitsSigned w32 c.in-Int.n = search rules in
    λ b. rw c.in-Int.is (simp to_z-of_z at (c.integer_code.ensures.category b))
