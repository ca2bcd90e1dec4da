use Rattle.tx_eqtb.specs.Meanings.{meanings}
use Rattle.tx_environment.proofs.tests.Session.fail.Goals as goal

pub invariant_of-self : goal.invariant_of-self
invariant_of-self c = c.give_back.ensures (meanings c.self.inside.frozen) c.self.invariant.first
