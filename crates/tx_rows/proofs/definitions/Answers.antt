use Rattle.std.proofs.Common.{refl}
use Rattle.std.specs.Fmt.{digits}
use Rattle.tx_model.specs.Scanner.{scanned}
use Rattle.tx_model.specs.Pending.{next}
use Rattle.tx_model.specs.Moves.{move_in}
use Rattle.tx_model.specs.Reads.{reads}
use Rattle.tx_model.specs.Region.{outcome_in}
use Rattle.tx_rows.proofs.definitions.Goals as goal

pub returns-clause-in_group : goal.returns-clause-in_group
unfolding scanned next move_in reads outcome_in digits
returns-clause-in_group c = refl

pub returns-clause-for_ever : goal.returns-clause-for_ever
unfolding scanned next move_in reads outcome_in digits
returns-clause-for_ever c = refl

pub returns-clause-of_character : goal.returns-clause-of_character
unfolding scanned next move_in reads outcome_in digits
returns-clause-of_character c = refl

pub returns-clause-with_parameter : goal.returns-clause-with_parameter
unfolding scanned next move_in reads outcome_in digits
returns-clause-with_parameter c = refl
