use Rattle.std.proofs.Common.{refl}
use Rattle.std.specs.Fmt.{digits}
use Rattle.tx_model.specs.Scanner.{scanned}
use Rattle.tx_model.specs.Pending.{next}
use Rattle.tx_model.specs.Moves.{move_in}
use Rattle.tx_model.specs.Reads.{reads}
use Rattle.tx_model.specs.Region.{outcome_in}
use Rattle.tx_rows.proofs.regions_that_are_spent.Goals as goal

pub returns : goal.returns
unfolding scanned next move_in reads outcome_in digits
returns c = refl
