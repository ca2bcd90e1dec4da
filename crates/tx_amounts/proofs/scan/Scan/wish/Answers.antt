-- proofs/scan/Scan/wish/Answers.antt
use Rattle.tx_amounts.specs.Scanning.{command_in}
use Rattle.tx_amounts.proofs.TellLemmas.{wishes-quantity}
use Rattle.tx_amounts.proofs.scan.Scan.wish.Goals as goal

pub returns-in-Some-clause-moves : goal.returns-in-Some-clause-moves
returns-in-Some-clause-moves c view w =
    (command_in view c.in-Some.field-0, wishes-quantity view c.args.self.now w c.in-Some.field-0 c.in-Some.is)
