use Rattle.std.proofs.Common.{refl, sym}
use Rattle.tx_input.proofs.NameLemmas.{refuses-number}
use Rattle.tx_input.proofs.input.Input.found_number.Goals as goal

pub returns : goal.returns
returns c =
    let full = sym c.in-Some.ensures in
    (full, refuses-number c.args.number c.args.self.now c.in-Some.limit (sym c.if-not-has_name.ensures) full, refl)
