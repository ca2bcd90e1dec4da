use Rattle.std.proofs.Common.{refl}
use Rattle.std.specs.Fmt.{digits}
use Rattle.tx_model.specs.Scanner.{scanned}
use Rattle.tx_model.specs.Pending.{next}
use Rattle.tx_num.specs.Decimals.{decimals_below}
use Rattle.tx_prims.specs.Primitives.{primitive_named}
use Rattle.tx_prims.specs.Errors.{text_of_error}
use Rattle.tx_private.specs.Moves.{move_in}
use Rattle.tx_private.specs.Reads.{reads}
use Rattle.tx_private.specs.Region.{outcome_in}
use Rattle.tx_private.proofs.rows.dimensions.Goals as goal

pub returns-clause-divided : goal.returns-clause-divided
unfolding scanned next move_in reads outcome_in digits decimals_below primitive_named text_of_error
returns-clause-divided c = refl

pub returns-clause-too_large : goal.returns-clause-too_large
unfolding scanned next move_in reads outcome_in digits decimals_below primitive_named text_of_error
returns-clause-too_large c = refl

pub returns-clause-largest : goal.returns-clause-largest
unfolding scanned next move_in reads outcome_in digits decimals_below primitive_named text_of_error
returns-clause-largest c = refl

pub returns-clause-space_before_unit : goal.returns-clause-space_before_unit
unfolding scanned next move_in reads outcome_in digits decimals_below primitive_named text_of_error
returns-clause-space_before_unit c = refl

pub returns-clause-hexadecimal : goal.returns-clause-hexadecimal
unfolding scanned next move_in reads outcome_in digits decimals_below primitive_named text_of_error
returns-clause-hexadecimal c = refl

pub returns-clause-integer_as_unit : goal.returns-clause-integer_as_unit
unfolding scanned next move_in reads outcome_in digits decimals_below primitive_named text_of_error
returns-clause-integer_as_unit c = refl
