use Rattle.std.proofs.Common.{refl}
use Rattle.std.specs.Fmt.{digits}
use Rattle.tx_model.specs.Scanner.{scanned}
use Rattle.tx_model.specs.Pending.{next}
use Rattle.tx_num.specs.Decimals.{decimals_below}
use Rattle.tx_prims.specs.Primitives.{primitive_named}
use Rattle.tx_prims.specs.Errors.{text_of_error}
use Rattle.tx_private.specs.Moves.{move_in}
use Rattle.tx_private.specs.Reads.{reads}
use Rattle.tx_private.specs.Region.{outcome_in}
use Rattle.tx_private.proofs.rows.groups.Goals as goal

pub returns-clause-global : goal.returns-clause-global
unfolding scanned next move_in reads outcome_in digits decimals_below primitive_named text_of_error
returns-clause-global c = refl

pub returns-clause-after : goal.returns-clause-after
unfolding scanned next move_in reads outcome_in digits decimals_below primitive_named text_of_error
returns-clause-after c = refl

pub returns-clause-mixed : goal.returns-clause-mixed
unfolding scanned next move_in reads outcome_in digits decimals_below primitive_named text_of_error
returns-clause-mixed c = refl

pub returns-clause-most : goal.returns-clause-most
unfolding scanned next move_in reads outcome_in digits decimals_below primitive_named text_of_error
returns-clause-most c = refl

pub returns-clause-too_many : goal.returns-clause-too_many
unfolding scanned next move_in reads outcome_in digits decimals_below primitive_named text_of_error
returns-clause-too_many c = refl
