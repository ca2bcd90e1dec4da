use Rattle.std.proofs.Common.{refl}
use Rattle.std.specs.Fmt.{digits}
use Rattle.tx_model.specs.Scanner.{scanned}
use Rattle.tx_model.specs.Pending.{next}
use Rattle.tx_num.specs.Decimals.{decimals_below}
use Rattle.tx_prims.specs.Primitives.{primitive_named}
use Rattle.tx_prims.specs.Errors.{text_of_error}
use Rattle.tx_private.specs.Described.{name_of_primitive}
use Rattle.tx_private.specs.Moves.{move_in}
use Rattle.tx_private.specs.Reads.{reads}
use Rattle.tx_private.specs.Region.{outcome_in}
use Rattle.tx_private.proofs.rows.commands.Goals as goal

pub returns-clause-ignored_spaces : goal.returns-clause-ignored_spaces
unfolding scanned next move_in reads outcome_in digits decimals_below primitive_named text_of_error
returns-clause-ignored_spaces c = refl

pub returns-clause-end : goal.returns-clause-end
unfolding scanned next move_in reads outcome_in digits decimals_below primitive_named text_of_error
returns-clause-end c = refl

pub returns-clause-new_lines : goal.returns-clause-new_lines
unfolding scanned next move_in reads outcome_in digits decimals_below primitive_named text_of_error
returns-clause-new_lines c = refl

pub returns-clause-line_ends : goal.returns-clause-line_ends
unfolding scanned next move_in reads outcome_in digits decimals_below primitive_named text_of_error
returns-clause-line_ends c = refl

pub returns-clause-upper_case : goal.returns-clause-upper_case
unfolding scanned next move_in reads outcome_in digits decimals_below primitive_named text_of_error
returns-clause-upper_case c = refl

pub returns-clause-active_character : goal.returns-clause-active_character
unfolding scanned next move_in reads outcome_in digits decimals_below primitive_named text_of_error
returns-clause-active_character c = refl

pub returns-clause-escape_character : goal.returns-clause-escape_character
unfolding scanned next move_in reads outcome_in digits decimals_below primitive_named text_of_error name_of_primitive
returns-clause-escape_character c = refl

pub returns-clause-no_register : goal.returns-clause-no_register
unfolding scanned next move_in reads outcome_in digits decimals_below primitive_named text_of_error name_of_primitive
returns-clause-no_register c = refl

pub returns-clause-long_register : goal.returns-clause-long_register
unfolding scanned next move_in reads outcome_in digits decimals_below primitive_named text_of_error name_of_primitive
returns-clause-long_register c = refl

pub returns-clause-list_in_definition : goal.returns-clause-list_in_definition
unfolding scanned next move_in reads outcome_in digits decimals_below primitive_named text_of_error name_of_primitive
returns-clause-list_in_definition c = refl

pub returns-clause-letter : goal.returns-clause-letter
unfolding scanned next move_in reads outcome_in digits decimals_below primitive_named text_of_error name_of_primitive
returns-clause-letter c = refl

pub returns-clause-numeral : goal.returns-clause-numeral
unfolding scanned next move_in reads outcome_in digits decimals_below primitive_named text_of_error name_of_primitive
returns-clause-numeral c = refl

pub returns-clause-job : goal.returns-clause-job
unfolding scanned next move_in reads outcome_in digits decimals_below primitive_named text_of_error name_of_primitive
returns-clause-job c = refl

pub returns-clause-hanging : goal.returns-clause-hanging
unfolding scanned next move_in reads outcome_in digits decimals_below primitive_named text_of_error
returns-clause-hanging c = refl

pub returns-clause-end_in_group : goal.returns-clause-end_in_group
unfolding scanned next move_in reads outcome_in digits decimals_below primitive_named text_of_error
returns-clause-end_in_group c = refl
