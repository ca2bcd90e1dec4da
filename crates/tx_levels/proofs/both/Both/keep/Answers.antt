use Rattle.std.proofs.Common.{rules, ◌≡◌, ◌+◌, ◌∙◌, ap, sym, length}
use Rattle.tx_levels.proofs.AgreementLemmas.{agrees-kept}
use Rattle.tx_levels.proofs.both.Both.keep.Goals as goal

pub invariant_of-result-2 : goal.invariant_of-result-2
invariant_of-result-2 c =
    let is : c.self.inside.groups.level ≡ 1 = search rules in (
      c.level.ensures.outermost is c.keep_all.new.over,
      agrees-kept c.self.inside.over c.keep_all.new.over c.self.inside.groups c.self.inside.levels c.in_ok-keep.field-0 c.keep_all.ensures.now c.keep_all.ensures.before (c.level.ensures.alone is) c.in_ok-keep.ensures c.self.invariant.1,
      c.self.invariant.2 ∙ ap (λ l. length l.outer + 1) (sym c.in_ok-keep.ensures),
    )
