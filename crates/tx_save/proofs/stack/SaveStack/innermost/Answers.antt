use Rattle.std.proofs.Common.{◌∙◌, ap, reverse, sym}
use Rattle.std.specs.List.{slice_get}
use Rattle.std.specs.Option.{option_map}
use Rattle.tx_save.specs.Levels.{level_at}
use Rattle.tx_save.specs.Saves.{groups}
use Rattle.tx_save.proofs.SaveLemmas.{groups-outermost, groups-innermost}
use Rattle.tx_save.proofs.stack.SaveStack.innermost.Goals as goal

pub returns-then-self-eq1 : goal.returns-then-self-eq1
returns-then-self-eq1 g c =
    let none = groups-outermost c.self.inside.level (level_at c.self.inside.levels.entries) c.self.inside.group (reverse c.self.inside.saves.items) c.self.invariant c.if-self-eq1.true in
    sym (ap (λ s. option_map (λ group. group.kind) (slice_get (groups s) 0)) (sym c.self.view_is) ∙ ap (λ l. option_map (λ group. group.kind) (slice_get l 0)) none)

pub returns : goal.returns
returns g c =
    let some = groups-innermost c.self.inside.level (level_at c.self.inside.levels.entries) c.self.inside.group (reverse c.self.inside.saves.items) c.self.invariant c.if-self-eq1.false in
    sym (ap (λ s. option_map (λ group. group.kind) (slice_get (groups s) 0)) (sym c.self.view_is) ∙ ap (λ o. option_map (λ group. group.kind) o) some)
