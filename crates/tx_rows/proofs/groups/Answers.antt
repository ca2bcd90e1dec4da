use Rattle.std.proofs.Common.{refl}
use Rattle.std.specs.Fmt.{digits}
use Rattle.tx_model.specs.Scanner.{scanned}
use Rattle.tx_model.specs.Pending.{next}
use Rattle.tx_model.specs.Moves.{move_in}
use Rattle.tx_model.specs.Reads.{reads}
use Rattle.tx_model.specs.Region.{outcome_in}
use Rattle.tx_rows.proofs.groups.Goals as goal

pub returns-clause-closed : goal.returns-clause-closed
unfolding scanned next move_in reads outcome_in digits
returns-clause-closed c = refl

pub returns-clause-none_open : goal.returns-clause-none_open
unfolding scanned next move_in reads outcome_in digits
returns-clause-none_open c = refl

pub returns-clause-left_open : goal.returns-clause-left_open
unfolding scanned next move_in reads outcome_in digits
returns-clause-left_open c = refl

pub returns-clause-two_left_open : goal.returns-clause-two_left_open
unfolding scanned next move_in reads outcome_in digits
returns-clause-two_left_open c = refl
