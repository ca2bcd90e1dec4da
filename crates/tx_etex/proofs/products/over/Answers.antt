use Rattle.std.proofs.Common.{◌≡◌, ◌==◌, false, unsigned_abs, arith, rules}
use Rattle.std.specs.Prelude.{FitsSigned}
use Rattle.std.specs.Int.{w64}
use Rattle.std.proofs.lemmas.Int.{to_z-of_z, ints}
use Rattle.tx_etex.proofs.ProductLemmas.{quotient-parts}
use Rattle.tx_etex.proofs.products.over.Goals as goal

pub returns : goal.returns
returns c =
    let width : FitsSigned w64 c.args.a.width = search rules in
    let stretch : FitsSigned w64 c.args.a.stretch.size = search rules in
    let shrink : FitsSigned w64 c.args.a.shrink.size = search rules in
    let divisor : FitsSigned w64 c.args.n.width = search rules in
    let r1 : FitsSigned w64 c.rounded_quotient.result = search rules in
    let r2 : FitsSigned w64 c.rounded_quotient-2.result = search rules in
    let r3 : FitsSigned w64 c.rounded_quotient-3.result = search rules in
    let nonzero : (unsigned_abs c.args.n.width == 0) ≡ false = grind (arith, ints) in
    simp to_z-of_z
    (quotient-parts c.args.a c.args.n c.rounded_quotient.result c.rounded_quotient-2.result c.rounded_quotient-3.result nonzero
    (simp to_z-of_z at c.rounded_quotient.ensures) (simp to_z-of_z at c.rounded_quotient-2.ensures)
    (simp to_z-of_z at c.rounded_quotient-3.ensures))
