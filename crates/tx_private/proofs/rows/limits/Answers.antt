use Rattle.std.proofs.Common.{refl}
use Rattle.std.specs.Fmt.{digits}
use Rattle.tx_model.specs.Scanner.{scanned}
use Rattle.tx_model.specs.Pending.{next}
use Rattle.tx_num.specs.Decimals.{decimals_below}
use Rattle.tx_prims.specs.Primitives.{primitive_named}
use Rattle.tx_prims.specs.Errors.{text_of_error}
use Rattle.tx_private.specs.Moves.{move_in}
use Rattle.tx_private.specs.Reads.{reads}
use Rattle.tx_private.specs.Region.{outcome_in}
use Rattle.tx_private.proofs.rows.limits.Goals as goal

pub returns-clause-readings : goal.returns-clause-readings
unfolding scanned next move_in reads outcome_in digits decimals_below primitive_named text_of_error
returns-clause-readings c = refl

pub returns-clause-name : goal.returns-clause-name
unfolding scanned next move_in reads outcome_in digits decimals_below primitive_named text_of_error
returns-clause-name c = refl
