use Rattle.std.proofs.Common.{subst}
use Rattle.tx_save.proofs.StackLemmas.{Leveled, outside-again, fits-again}
use Rattle.tx_save.proofs.stack.SaveStack.assign_again.Goals as goal

pub returns-clause-outside : goal.returns-clause-outside
returns-clause-outside g c = outside-again c.args.over.now c.set.new.self c.args.self.now c.args.at c.args.m (subst Leveled c.self.view_is c.self.invariant) c.requires.level c.requires.open c.in_ok-old.ensures.now c.in_ok-old.ensures.before

pub returns-clause-fits : goal.returns-clause-fits
returns-clause-fits g c = fits-again c.args.over.now c.set.new.self c.args.self.now c.args.at (subst Leveled c.self.view_is c.self.invariant) c.requires.level c.requires.open c.in_ok-old.ensures.journal c.requires.fits
