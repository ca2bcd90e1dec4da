use Rattle.std.specs.Option.{option_to_list}
use Rattle.tx_environment.specs.Steps.{held}
use Rattle.tx_environment.proofs.HoldingLemmas.{counts-assigned, counts-handed}
use Rattle.tx_environment.proofs.laws.counts.Goals as goal

pub returns-clause-assigned : goal.returns-clause-assigned
returns-clause-assigned c old new m out same id = counts-assigned id m (option_to_list out) (held old) (held new) same

pub returns-clause-handed_out : goal.returns-clause-handed_out
returns-clause-handed_out c old new out same id = counts-handed id out (held old) (held new) same
