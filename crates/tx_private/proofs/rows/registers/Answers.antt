use Rattle.std.proofs.Common.{refl}
use Rattle.std.specs.Fmt.{digits}
use Rattle.tx_model.specs.Scanner.{scanned}
use Rattle.tx_model.specs.Pending.{next}
use Rattle.tx_num.specs.Decimals.{decimals_below}
use Rattle.tx_prims.specs.Primitives.{primitive_named}
use Rattle.tx_prims.specs.Errors.{text_of_error}
use Rattle.tx_private.specs.Described.{name_of_primitive}
use Rattle.tx_private.specs.Moves.{move_in}
use Rattle.tx_private.specs.Reads.{reads}
use Rattle.tx_private.specs.Region.{outcome_in}
use Rattle.tx_private.proofs.rows.registers.Goals as goal

pub returns-clause-greatest : goal.returns-clause-greatest
unfolding scanned next move_in reads outcome_in digits decimals_below primitive_named text_of_error
returns-clause-greatest c = refl

pub returns-clause-too_big : goal.returns-clause-too_big
unfolding scanned next move_in reads outcome_in digits decimals_below primitive_named text_of_error
returns-clause-too_big c = refl

pub returns-clause-lists : goal.returns-clause-lists
unfolding scanned next move_in reads outcome_in digits decimals_below primitive_named text_of_error
returns-clause-lists c = refl

pub returns-clause-list_of_list : goal.returns-clause-list_of_list
unfolding scanned next move_in reads outcome_in digits decimals_below primitive_named text_of_error
returns-clause-list_of_list c = refl

pub returns-clause-named : goal.returns-clause-named
unfolding scanned next move_in reads outcome_in digits decimals_below primitive_named text_of_error
returns-clause-named c = refl

pub returns-clause-advanced : goal.returns-clause-advanced
unfolding scanned next move_in reads outcome_in digits decimals_below primitive_named text_of_error name_of_primitive
returns-clause-advanced c = refl

pub returns-clause-codes : goal.returns-clause-codes
unfolding scanned next move_in reads outcome_in digits decimals_below primitive_named text_of_error name_of_primitive
returns-clause-codes c = refl

pub returns-clause-code_too_great : goal.returns-clause-code_too_great
unfolding scanned next move_in reads outcome_in digits decimals_below primitive_named text_of_error name_of_primitive
returns-clause-code_too_great c = refl
