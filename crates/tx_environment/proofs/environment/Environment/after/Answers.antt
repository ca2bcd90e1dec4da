use Rattle.std.proofs.Common.{sym, ◌∙◌, arith}
use Rattle.tx_environment.proofs.StepLemmas.{length-after, groups-after, after-is, on_ok_map}
use Rattle.tx_environment.proofs.environment.Environment.after.Goals as goal

pub invariant_of-self : goal.invariant_of-self
invariant_of-self c =
    let same = length-after c.args.token c.self.inside.save c.after.new.self c.after.result c.after.ensures.ok c.after.ensures.unchanged in
    record { level = omega (arith, same.0, same.1, c.self.invariant.level); outer = c.self.invariant.outer ∙ sym same.0 }

pub returns-clause-kept : goal.returns-clause-kept
returns-clause-kept c = rw (← c.self.view_is) (on_ok_map c.after.result (after-is c.args.token c.self.inside.over c.self.inside.save c.after.new.self) c.after.ensures.ok)

pub returns-clause-groups : goal.returns-clause-groups
returns-clause-groups c =
    rw (← c.self.view_is) (length-after c.args.token c.self.inside.save c.after.new.self c.after.result c.after.ensures.ok c.after.ensures.unchanged).0

pub returns-clause-leaves : goal.returns-clause-leaves
returns-clause-leaves c = rw (← c.self.view_is) (on_ok_map c.after.result (groups-after c.args.token c.self.inside.save c.after.new.self) c.after.ensures.ok)
