use Rattle.std.proofs.Common.{refl, sym}
use Rattle.tx_input.proofs.NameLemmas.{refuses-none}
use Rattle.tx_input.proofs.input.Input.found_none.Goals as goal

pub returns-in-Some : goal.returns-in-Some
returns-in-Some c =
    let full = sym c.in-Some.ensures in (full, refuses-none c.args.self.now c.in-Some.limit full, refl)
