use Rattle.std.proofs.Common.{[], ◌∷◌, ◌++◌, sym, ◌∙◌, ap, subst}
use Rattle.std.specs.List.{AllByRecursion}
use Rattle.tx_gullet.specs.Meanings.{KnowsMeaning}
use Rattle.tx_gullet.specs.Levels.{KnowsSave}
use Rattle.tx_gullet.specs.declared.equivalents.Save.TheVariants as save
use Rattle.tx_gullet.proofs.LevelLemmas.{defined-here, all-append}
use Rattle.tx_gullet.proofs.UndoLemmas.{all-written, keeps-defined}
use Rattle.tx_gullet.proofs.equivalents.Equivalents.define.Goals as goal

pub returns-clause-levels : goal.returns-clause-levels
returns-clause-levels c naming apart =
    let last = c.in_ok-push.ensures.items ∙ ap (λ v. v.items ++ save.Name c.args.number c.in_ok-before.before ∷ []) c.in_ok-before.ensures.saves ∙ ap (λ s. s ++ save.Name c.args.number c.in_ok-before.before ∷ []) c.in_ok-reserve.ensures.items in
    defined-here naming c.args.self.now.cats c.write.new.self.cats c.args.self.now.names.entries c.write.new.self.names.entries c.args.self.now.saves.items c.push.new.self.items c.args.number c.args.meaning c.in_ok-before.before apart c.in_ok-before.ensures.cats c.in_ok-before.ensures.names last c.in_ok-before.ensures.before

pub returns-clause-kept : goal.returns-clause-kept
returns-clause-kept c =
    let last = c.in_ok-push.ensures.items ∙ ap (λ v. v.items ++ save.Name c.args.number c.in_ok-before.before ∷ []) c.in_ok-before.ensures.saves ∙ ap (λ s. s ++ save.Name c.args.number c.in_ok-before.before ∷ []) c.in_ok-reserve.ensures.items in
    keeps-defined c.args.self.now (record { cats = c.write.new.self.cats; names = c.write.new.self.names; saves = c.push.new.self }) c.args.number c.args.meaning c.in_ok-before.before c.in_ok-before.ensures.cats c.in_ok-before.ensures.names last c.in_ok-before.ensures.before

pub returns-clause-knows : goal.returns-clause-knows
returns-clause-knows c names knows one =
    let last = c.in_ok-push.ensures.items ∙ ap (λ v. v.items ++ save.Name c.args.number c.in_ok-before.before ∷ []) c.in_ok-before.ensures.saves ∙ ap (λ s. s ++ save.Name c.args.number c.in_ok-before.before ∷ []) c.in_ok-reserve.ensures.items in
    record {
      cells = all-written (KnowsMeaning names) c.args.self.now.names.entries c.write.new.self.names.entries c.args.number c.args.meaning c.in_ok-before.ensures.names knows.cells one;
      saves = subst (AllByRecursion (KnowsSave names)) (sym last)
          (all-append (KnowsSave names) c.args.self.now.saves.items (save.Name c.args.number c.in_ok-before.before ∷ []) knows.saves
          (subst (KnowsMeaning names) (sym c.in_ok-before.ensures.before) (knows.cells c.args.number), tt));
      has_cells = (returns-clause-kept c).has_cells knows.has_cells;
    }
