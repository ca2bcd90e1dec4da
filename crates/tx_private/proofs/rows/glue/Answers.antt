use Rattle.std.proofs.Common.{refl}
use Rattle.std.specs.Fmt.{digits}
use Rattle.tx_model.specs.Scanner.{scanned}
use Rattle.tx_model.specs.Pending.{next}
use Rattle.tx_num.specs.Decimals.{decimals_below}
use Rattle.tx_prims.specs.Primitives.{primitive_named}
use Rattle.tx_prims.specs.Errors.{text_of_error}
use Rattle.tx_private.specs.Moves.{move_in}
use Rattle.tx_private.specs.Reads.{reads}
use Rattle.tx_private.specs.Region.{outcome_in}
use Rattle.tx_private.proofs.rows.glue.Goals as goal

pub returns-clause-sign : goal.returns-clause-sign
unfolding scanned next move_in reads outcome_in digits decimals_below primitive_named text_of_error
returns-clause-sign c = refl

pub returns-clause-infinite : goal.returns-clause-infinite
unfolding scanned next move_in reads outcome_in digits decimals_below primitive_named text_of_error
returns-clause-infinite c = refl

pub returns-clause-math_glue : goal.returns-clause-math_glue
unfolding scanned next move_in reads outcome_in digits decimals_below primitive_named text_of_error
returns-clause-math_glue c = refl

pub returns-clause-list : goal.returns-clause-list
unfolding scanned next move_in reads outcome_in digits decimals_below primitive_named text_of_error
returns-clause-list c = refl
