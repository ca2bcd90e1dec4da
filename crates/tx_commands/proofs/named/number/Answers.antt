use Rattle.std.proofs.Common.{rules, FitsSigned, w32}
use Rattle.std.proofs.lemmas.Int.{to_z-of_z}
use Rattle.tx_commands.proofs.named.number.Goals as goal

pub returns-in-Int-clause-becomes : goal.returns-in-Int-clause-becomes
returns-in-Int-clause-becomes c =
    let f : FitsSigned w32 c.in-Int.n = search rules in
    rw c.in-Int.is (simp to_z-of_z at c.stand.ensures.becomes)
