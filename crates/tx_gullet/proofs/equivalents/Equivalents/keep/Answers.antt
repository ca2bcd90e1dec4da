use Rattle.std.proofs.Common.{◌≡◌, ℕ, ◌<◌, [], ◌∷◌, List, reverse, sym, ◌∙◌, ap, subst, arith}
use Rattle.std.specs.List.{AllByRecursion}
use Rattle.std.proofs.lemmas.Bool.Decides.{nat_tests}
use Rattle.tx_model.specs.Environment.{open_groups}
use Rattle.tx_gullet.specs.Levels.{levels, map_of, below, HasCell, KnowsSave}
use Rattle.tx_gullet.proofs.UndoLemmas.{saved-where-open, outermost-ended, outermost-alone}
use Rattle.tx_gullet.proofs.equivalents.Equivalents.keep.Goals as goal

pub groups-smaller : goal.groups-smaller
groups-smaller c =
    let naming : ℕ → List ℕ = λ n. [] in
    let test = c.groups-test.true in
    let count = c.open_groups.ensures naming in
    let opened : 0 < open_groups (levels naming c.groups.self) = grind (arith, nat_tests, test, count) in
    c.end_group-ended.ensures.fewer (saved-where-open naming c.groups.self.cats c.groups.self.names.entries c.groups.self.saves.items opened)

pub groups-preserved : goal.groups-preserved
groups-preserved c = (
  λ naming apart map.
      let test = c.groups-test.true in
      let count = c.open_groups.ensures naming in
      let opened : 0 < open_groups (levels naming c.groups.self) = grind (arith, nat_tests, test, count) in
      outermost-ended map (levels naming c.groups.self) (levels naming c.end_group-ended.new.self) c.end_group-ended.result opened (c.end_group-ended.ensures.ended naming apart) ∙ c.groups.invariant.0 naming apart map,
  λ names knows. c.end_group-ended.ensures.knows names (c.groups.invariant.1 names knows),
  c.end_group-ended.ensures.kept.has_cells c.groups.invariant.2,
)

pub returns-clause-levels : goal.returns-clause-levels
returns-clause-levels c naming apart map =
    let test = c.groups-test.false in
    let count = c.open_groups.ensures naming in
    let none : open_groups (levels naming c.groups.self) ≡ 0 = grind (arith, nat_tests, test, count) in
    ap (λ s. map_of naming c.groups.self.cats c.groups.self.names.entries ∷ below naming c.groups.self.cats c.groups.self.names.entries (reverse s)) c.clear.ensures.items
    ∙ ap (λ m. m ∷ []) (sym (outermost-alone map (map_of naming c.groups.self.cats c.groups.self.names.entries) (below naming c.groups.self.cats c.groups.self.names.entries (reverse c.groups.self.saves.items)) none) ∙ c.groups.invariant.0 naming apart map)

pub returns-clause-knows : goal.returns-clause-knows
returns-clause-knows c names knows =
    let now = c.groups.invariant.1 names knows in
    record {
      cells = now.cells;
      saves = subst (AllByRecursion (KnowsSave names)) (sym c.clear.ensures.items) tt;
      has_cells = subst (AllByRecursion (HasCell c.groups.self.names.entries)) (sym c.clear.ensures.items) tt;
    }
