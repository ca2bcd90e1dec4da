use Rattle.std.proofs.Common.{sym}
use Rattle.tx_names.proofs.TextLemmas.{number_of-result, agrees-known}
use Rattle.tx_names.proofs.names.NameTable.intern.Goals as goal

pub returns-in-Some-clause-agrees : goal.returns-in-Some-clause-agrees
returns-in-Some-clause-agrees c naming agrees =
    (agrees-known c.args.self.now c.args.text.now c.in-Some.number (sym c.in-Some.ensures) naming agrees, agrees)

pub returns-clause-number : goal.returns-clause-number
returns-clause-number c =
    number_of-result c.args.self.now c.args.text.now c.join.result c.join.new.self (sym c.in_default.ensures) c.join.ensures.number c.join.ensures.texts
