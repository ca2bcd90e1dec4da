use Rattle.std.proofs.Common.{refl}
use Rattle.std.specs.Fmt.{digits}
use Rattle.tx_model.specs.Scanner.{scanned}
use Rattle.tx_model.specs.Pending.{next}
use Rattle.tx_model.specs.Moves.{move_in}
use Rattle.tx_model.specs.Reads.{reads}
use Rattle.tx_model.specs.Region.{outcome_in}
use Rattle.tx_rows.proofs.bytes_of_lines.Goals as goal

pub returns-clause-hex : goal.returns-clause-hex
unfolding scanned next move_in reads outcome_in digits
returns-clause-hex c = refl

pub returns-clause-invalid : goal.returns-clause-invalid
unfolding scanned next move_in reads outcome_in digits
returns-clause-invalid c = refl

pub returns-clause-in_name : goal.returns-clause-in_name
unfolding scanned next move_in reads outcome_in digits
returns-clause-in_name c = refl

pub returns-clause-again : goal.returns-clause-again
unfolding scanned next move_in reads outcome_in digits
returns-clause-again c = refl

pub returns-clause-ignored : goal.returns-clause-ignored
unfolding scanned next move_in reads outcome_in digits
returns-clause-ignored c = refl

pub returns-clause-comment : goal.returns-clause-comment
unfolding scanned next move_in reads outcome_in digits
returns-clause-comment c = refl

pub returns-clause-characters : goal.returns-clause-characters
unfolding scanned next move_in reads outcome_in digits
returns-clause-characters c = refl
