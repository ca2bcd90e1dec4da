use Rattle.std.proofs.Common.{arith, rules, ap, ◌∙◌, sym, ◌≡◌}
use Rattle.std.specs.Int.{w64, cast_signed, cast_unsigned}
use Rattle.std.specs.Prelude.{FitsSigned, ◌<ℤ◌, ◌-ℤ◌, pos, neg_ℤ}
use Rattle.std.proofs.lemmas.Int.{ints, to_z-of_z}
use Rattle.tx_num.specs.Fractions.{part}
use Rattle.tx_num.proofs.PartLemmas.{part_negative}
use Rattle.tx_num.proofs.ratios.Ratio.part.Goals as goal

pub returns-then-sum-lt0 : goal.returns-then-sum-lt0
returns-then-sum-lt0 c =
    let num_fits : FitsSigned w64 c.self.inside.num = search rules in
    let den_fits : FitsSigned w64 c.self.inside.den = search rules in
    let sum_fits : FitsSigned w64 c.args.sum = search rules in
    let num = simp to_z-of_z at c.unsigned_abs.ensures.value in
    let sum = simp to_z-of_z at c.unsigned_abs-2.ensures.value in
    let den = simp to_z-of_z at c.unsigned_abs-den.ensures.value in
    let size = rw (num, sum, den) at c.min-size.ensures in
    let negative : c.args.sum <ℤ pos 0 = grind (arith, ints) in
    let negated : cast_signed w64 (cast_unsigned w64 (pos 0 -ℤ cast_signed w64 c.min-size.result)) ≡ neg_ℤ (pos c.min-size.result) = omega (arith, ints, c.min-size.ensures) in
    negated ∙ ap (λ n. neg_ℤ (pos n)) size
    ∙ sym (part_negative c.self.inside.num c.self.inside.den c.args.sum c.self.invariant.num c.self.invariant.den negative)
    ∙ ap (λ r. part r c.args.sum) c.self.view_is
