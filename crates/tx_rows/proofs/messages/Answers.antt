use Rattle.std.proofs.Common.{refl}
use Rattle.std.specs.Fmt.{digits}
use Rattle.tx_model.specs.Scanner.{scanned}
use Rattle.tx_model.specs.Pending.{next}
use Rattle.tx_model.specs.Moves.{move_in}
use Rattle.tx_model.specs.Reads.{reads}
use Rattle.tx_model.specs.Region.{outcome_in}
use Rattle.tx_rows.proofs.messages.Goals as goal

pub returns-clause-names : goal.returns-clause-names
unfolding scanned next move_in reads outcome_in digits
returns-clause-names c = refl

pub returns-clause-undefined : goal.returns-clause-undefined
unfolding scanned next move_in reads outcome_in digits
returns-clause-undefined c = refl

pub returns-clause-without_brace : goal.returns-clause-without_brace
unfolding scanned next move_in reads outcome_in digits
returns-clause-without_brace c = refl

pub returns-clause-unclosed : goal.returns-clause-unclosed
unfolding scanned next move_in reads outcome_in digits
returns-clause-unclosed c = refl
