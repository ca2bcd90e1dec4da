use Rattle.std.proofs.Common.{refl, sym, subst, reverse}
use Rattle.tx_save.specs.Saves.{Saves, Fits}
use Rattle.tx_save.proofs.SaveLemmas.{leveled-global}
use Rattle.tx_save.proofs.StackLemmas.{outside-global, fits-everywhere, held-handed, leveled_moved}
use Rattle.tx_save.proofs.stack.SaveStack.assign_everywhere.Goals as goal

pub invariant_of-self : goal.invariant_of-self
invariant_of-self g c = leveled_moved _ _ _ _ c.lower_level.ensures (leveled-global _ _ c.args.at _ c.self.invariant)

pub returns-clause-outside : goal.returns-clause-outside
returns-clause-outside g c =
    let s : Saves _ = record { stack = reverse c.self.inside.saves.items; levels = c.self.inside.levels.entries; group = c.self.inside.group; level = c.self.inside.level } in
    let n : Saves _ = record { stack = reverse c.self.inside.saves.items; levels = c.lower_level.new.levels.entries; group = c.self.inside.group; level = c.self.inside.level } in
    rw (← c.self.view_is) (outside-global c.args.over.now c.set.new.self s n c.args.at c.args.m c.in_ok-old.ensures.now c.in_ok-old.ensures.before refl c.lower_level.ensures)

pub returns-clause-fits : goal.returns-clause-fits
returns-clause-fits g c =
    let s : Saves _ = record { stack = reverse c.self.inside.saves.items; levels = c.self.inside.levels.entries; group = c.self.inside.group; level = c.self.inside.level } in
    let n : Saves _ = record { stack = reverse c.self.inside.saves.items; levels = c.lower_level.new.levels.entries; group = c.self.inside.group; level = c.self.inside.level } in
    fits-everywhere c.args.over.now c.set.new.self s n c.args.at c.in_ok-old.ensures.journal refl c.lower_level.ensures (subst (Fits c.args.over.now) (sym c.self.view_is) c.requires)

pub returns-clause-held : goal.returns-clause-held
returns-clause-held g c = rw (← c.self.view_is) (held-handed c.args.over.now c.set.new.self (reverse c.self.inside.saves.items) (reverse c.self.inside.saves.items) c.args.m c.in_ok-old.old _ c.in_ok-old.ensures.held c.handed.ensures refl)
