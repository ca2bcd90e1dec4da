use Rattle.std.proofs.Common.{refl}
use Rattle.std.specs.Fmt.{digits}
use Rattle.tx_model.specs.Scanner.{scanned}
use Rattle.tx_model.specs.Pending.{next}
use Rattle.tx_model.specs.Moves.{move_in}
use Rattle.tx_model.specs.Reads.{reads}
use Rattle.tx_model.specs.Region.{outcome_in}
use Rattle.tx_rows.proofs.regions_that_fail.Goals as goal

pub returns-clause-letter : goal.returns-clause-letter
unfolding scanned next move_in reads outcome_in digits
returns-clause-letter c = refl

pub returns-clause-byte : goal.returns-clause-byte
unfolding scanned next move_in reads outcome_in digits
returns-clause-byte c = refl

pub returns-clause-name : goal.returns-clause-name
unfolding scanned next move_in reads outcome_in digits
returns-clause-name c = refl

pub returns-clause-byte_in_name : goal.returns-clause-byte_in_name
unfolding scanned next move_in reads outcome_in digits
returns-clause-byte_in_name c = refl
