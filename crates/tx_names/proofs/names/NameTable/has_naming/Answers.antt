use Rattle.std.proofs.Common.{subst}
use Rattle.tx_names.specs.Names.{NamingOf}
use Rattle.tx_names.proofs.NamingLemmas.{naming_from_distinct}
use Rattle.tx_names.proofs.names.NameTable.has_naming.Goals as goal

pub returns-clause-naming : goal.returns-clause-naming
returns-clause-naming c = subst NamingOf c.self.view_is (naming_from_distinct _ c.self.invariant.1)
