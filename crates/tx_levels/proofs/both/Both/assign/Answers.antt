use Rattle.std.proofs.Common.{rules, ◌≡◌, ◌+◌, ◌∙◌, ap, sym, length}
use Rattle.tx_eqtb.specs.declared.meaning.Meaning.TheVariants as meaning
use Rattle.tx_eqtb.specs.Steps.{Sets}
use Rattle.tx_save.specs.Saves.{ChangesOutside}
use Rattle.tx_levels.specs.Levels.{assigned}
use Rattle.tx_levels.proofs.AgreementLemmas.{agrees-assigned, both-moved, length-assigned}
use Rattle.tx_levels.proofs.both.Both.assign.Goals as goal

pub invariant_of-result-in-Ok-2 : goal.invariant_of-result-in-Ok-2
invariant_of-result-in-Ok-2 c =
    let sets : Sets c.self.inside.over c.args.at (meaning.Int c.args.n) c.assign.new.over = search rules in
    let changes : ChangesOutside c.args.global c.args.at (meaning.Int c.args.n) c.self.inside.over c.self.inside.groups c.assign.new.over c.assign.new.self = search rules in
    let levels : c.in_ok-assign-in-Ok.field-0 ≡ assigned c.args.global c.args.at c.args.n c.self.inside.levels = search rules in
    let agrees = agrees-assigned c.args.global c.args.at c.args.n c.self.inside.over c.assign.new.over c.self.inside.groups c.assign.new.self c.self.inside.levels c.in_ok-assign-in-Ok.field-0 sets c.in-Ok.ensures.before changes levels c.self.invariant.1 in
    let deep = c.in-Ok.ensures.level ∙ c.self.invariant.2 ∙ sym (ap (λ l. length l.outer + 1) levels ∙ ap (λ n. n + 1) (length-assigned c.args.global c.args.at c.args.n c.self.inside.levels)) in
    both-moved c.assign.new.over _ c.assign.new.self _ c.in_ok-assign-in-Ok.field-0 c.over.view_is c.groups.view_is (c.in-Ok.ensures.fits, agrees, deep)
