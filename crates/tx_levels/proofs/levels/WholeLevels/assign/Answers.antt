use Rattle.std.proofs.Common.{rules, ◌≡◌, map}
use Rattle.tx_levels.specs.Wholes.{changed}
use Rattle.tx_levels.proofs.WholeLemmas.{assigned-all}
use Rattle.tx_levels.proofs.levels.WholeLevels.assign.Goals as goal

pub returns-then-global : goal.returns-then-global
returns-then-global c =
    let here : c.in_ok-innermost.innermost ≡ changed c.self.inside.innermost c.args.at c.args.n = search rules in
    let there : c.in_ok-set_all.field-0.items ≡ map (λ whole. changed whole c.args.at c.args.n) c.self.inside.outer.items = search rules in
    rw (← c.self.view_is) (assigned-all c.args.global c.args.at c.args.n c.self.inside.innermost c.self.inside.first c.in_ok-innermost.innermost c.self.inside.outer.items c.in_ok-set_all.field-0.items c.if-global.true here there)
