use Rattle.std.proofs.Common.{◌∷◌, sym, ap, subst, ◌∙◌, reverse, refl}
use Rattle.std.specs.Option.{option_to_list}
use Rattle.tx_save.specs.Levels.{level_at}
use Rattle.tx_save.specs.Saves.{Fits, groups_of}
use Rattle.tx_save.proofs.StackLemmas.{outside-closed, fits-closed, held-closed, length-closed, not_empty}
use Rattle.tx_save.proofs.stack.SaveStack.close.Goals as goal

pub unreachable-requires : goal.unreachable-requires
unreachable-requires g c = not_empty c.self.inside.level c.args.self.now.level (level_at c.self.inside.levels.entries) (reverse c.self.inside.saves.items) c.self.invariant (ap (λ s. s.level) c.self.view_is) c.requires.open c.in-None.ensures.none

pub returns-in-Some-Saved-clause-closes : goal.returns-in-Some-Saved-clause-closes
returns-in-Some-Saved-clause-closes g c =
    let popped = c.in-Some-Saved.ensures.top ∙ ap (λ x. x ∷ reverse c.pop_save.new.saves.items) c.in-Some-Saved.field-0-is in
    rw (← c.self.view_is) (
      outside-closed c.args.over.now c.unsave.new.over c.in-Some-Saved.at c.in-Some-Saved.old c.in-Some-Saved.level (level_at c.self.inside.levels.entries) (level_at c.unsave.new.levels.entries) (reverse c.self.inside.saves.items) (reverse c.pop_save.new.saves.items) popped c.unsave.ensures.unsaved c.unsave.ensures.before,
      sym (ap (groups_of c.self.inside.group) popped),
      refl,
      length-closed c.args.over.now c.unsave.new.over c.in-Some-Saved.at c.in-Some-Saved.old c.in-Some-Saved.level (level_at c.self.inside.levels.entries) (level_at c.unsave.new.levels.entries) (reverse c.self.inside.saves.items) (reverse c.pop_save.new.saves.items) popped,
    )

pub returns-in-Some-Saved-clause-fits : goal.returns-in-Some-Saved-clause-fits
returns-in-Some-Saved-clause-fits g c =
    let popped = c.in-Some-Saved.ensures.top ∙ ap (λ x. x ∷ reverse c.pop_save.new.saves.items) c.in-Some-Saved.field-0-is in
    fits-closed c.args.over.now c.unsave.new.over c.in-Some-Saved.at c.in-Some-Saved.old c.in-Some-Saved.level (level_at c.self.inside.levels.entries) (level_at c.unsave.new.levels.entries) (reverse c.self.inside.saves.items) (reverse c.pop_save.new.saves.items) popped c.unsave.ensures.unsaved (subst (Fits c.args.over.now) (sym c.self.view_is) c.requires.fits)

pub returns-in-Some-Saved-clause-held : goal.returns-in-Some-Saved-clause-held
returns-in-Some-Saved-clause-held g c =
    let popped = c.in-Some-Saved.ensures.top ∙ ap (λ x. x ∷ reverse c.pop_save.new.saves.items) c.in-Some-Saved.field-0-is in
    rw (← c.self.view_is) (held-closed c.args.over.now c.unsave.new.over c.in-Some-Saved.at c.in-Some-Saved.old c.in-Some-Saved.level (level_at c.self.inside.levels.entries) (level_at c.unsave.new.levels.entries) (reverse c.self.inside.saves.items) (reverse c.pop_save.new.saves.items) popped (option_to_list c.unsave.result) c.unsave.ensures.held)
