use Rattle.std.proofs.Common.{subst}
use Rattle.tx_save.proofs.StackLemmas.{Leveled, on_ok_map, outside-outermost}
use Rattle.tx_save.proofs.stack.SaveStack.assign_outermost.Goals as goal

pub returns-clause-outside : goal.returns-clause-outside
returns-clause-outside g c = on_ok_map c.assign_everywhere.result (outside-outermost c.args.over.now c.assign_everywhere.new.over c.args.self.now c.assign_everywhere.new.self c.args.at c.args.m (subst Leveled c.self.view_is c.self.invariant) c.requires.outermost) c.assign_everywhere.ensures.outside
