use Rattle.std.proofs.Common.{refl}
use Rattle.std.specs.Fmt.{digits}
use Rattle.tx_model.specs.Scanner.{scanned}
use Rattle.tx_model.specs.Pending.{next}
use Rattle.tx_model.specs.Moves.{move_in}
use Rattle.tx_model.specs.Reads.{reads}
use Rattle.tx_model.specs.Region.{outcome_in}
use Rattle.tx_rows.proofs.regions_that_are_done.Goals as goal

pub returns-clause-empty : goal.returns-clause-empty
unfolding scanned next move_in reads outcome_in digits
returns-clause-empty c = refl

pub returns-clause-one_step : goal.returns-clause-one_step
unfolding scanned next move_in reads outcome_in digits
returns-clause-one_step c = refl

pub returns-clause-empty_line : goal.returns-clause-empty_line
unfolding scanned next move_in reads outcome_in digits
returns-clause-empty_line c = refl

pub returns-clause-blanks : goal.returns-clause-blanks
unfolding scanned next move_in reads outcome_in digits
returns-clause-blanks c = refl
