use Rattle.std.proofs.Common.{sym, ◌∙◌, ap, subst}
use Rattle.std.specs.List.{AllByRecursion}
use Rattle.tx_gullet.specs.Meanings.{KnowsMeaning}
use Rattle.tx_gullet.specs.Levels.{HasCell, KnowsSave}
use Rattle.tx_gullet.proofs.LevelLemmas.{restored, all-before-last, all-before-none, all-last}
use Rattle.tx_gullet.proofs.UndoLemmas.{all-written, keeps-restored, keeps-through, one-fewer}
use Rattle.tx_gullet.proofs.equivalents.Equivalents.end_group.Goals as goal

pub returns-in-Group-clause-knows : goal.returns-in-Group-clause-knows
returns-in-Group-clause-knows c names knows =
    let now = c.saves.invariant.1 names knows in
    record {
      cells = now.cells;
      saves = all-before-last (KnowsSave names) c.saves.self.saves.items c.pop.new.self.items c.in-Some.save c.in-Some.ensures.items now.saves;
      has_cells = all-before-last (HasCell c.saves.self.names.entries) c.saves.self.saves.items c.pop.new.self.items c.in-Some.save c.in-Some.ensures.items now.has_cells;
    }

pub restore-requires : goal.restore-requires
restore-requires c = record {
  cell = subst (HasCell c.saves.self.names.entries) c.in-Name.is (all-last (HasCell c.saves.self.names.entries) c.saves.self.saves.items c.pop.new.self.items c.in-Some.save c.in-Some.ensures.items c.saves.invariant.3);
}

pub saves-preserved : goal.saves-preserved
saves-preserved c =
    let kept = keeps-restored c.saves.self c.restore.new.self c.pop.new.self.items c.in-Some.save c.in-Name.number c.in-Name.meaning c.restore.ensures.cats c.restore.ensures.names (ap (λ v. v.items) c.restore.ensures.saves) c.in-Some.ensures.items c.in-Name.is in (
      λ naming. restored naming c.saves.self.cats c.restore.new.self.cats c.saves.self.names.entries c.restore.new.self.names.entries c.saves.self.saves.items c.pop.new.self.items c.restore.new.self.saves.items c.in-Some.save c.in-Name.number c.in-Name.meaning c.restore.ensures.cats c.restore.ensures.names (ap (λ v. v.items) c.restore.ensures.saves) c.in-Some.ensures.items c.in-Name.is ∙ c.saves.invariant.0 naming,
      λ names knows.
          let now = c.saves.invariant.1 names knows in
          record {
            cells = all-written (KnowsMeaning names) c.saves.self.names.entries c.restore.new.self.names.entries c.in-Name.number c.in-Name.meaning c.restore.ensures.names now.cells
                (subst (KnowsSave names) c.in-Name.is (all-last (KnowsSave names) c.saves.self.saves.items c.pop.new.self.items c.in-Some.save c.in-Some.ensures.items now.saves));
            saves = subst (λ v. AllByRecursion (KnowsSave names) v.items) (sym c.restore.ensures.saves)
                (all-before-last (KnowsSave names) c.saves.self.saves.items c.pop.new.self.items c.in-Some.save c.in-Some.ensures.items now.saves);
            has_cells = kept.has_cells now.has_cells;
          },
      keeps-through _ c.saves.self c.restore.new.self c.saves.invariant.2 kept,
      kept.has_cells c.saves.invariant.3,
      one-fewer c.saves.self.saves.items c.pop.new.self.items c.restore.new.self.saves.items c.in-Some.save _ c.in-Some.ensures.items (ap (λ v. v.items) c.restore.ensures.saves) c.saves.invariant.4,
    )

pub returns-clause-knows : goal.returns-clause-knows
returns-clause-knows c names knows =
    let now = c.saves.invariant.1 names knows in
    record {
      cells = now.cells;
      saves = all-before-none (KnowsSave names) c.saves.self.saves.items c.pop.new.self.items c.in_default.ensures.items now.saves;
      has_cells = all-before-none (HasCell c.saves.self.names.entries) c.saves.self.saves.items c.pop.new.self.items c.in_default.ensures.items now.has_cells;
    }
