use Rattle.std.proofs.lemmas.Int.{to_z-of_z}
use Rattle.tx_etex.proofs.ProductLemmas.{product-fits, product-below}
use Rattle.tx_etex.proofs.products.multiply.Goals as goal

pub returns-clause-value : goal.returns-clause-value
returns-clause-value c =
    let fits = product-fits c.args.a c.args.n c.requires.left c.requires.right in
    let f = c.ranges.a in
    let g = c.ranges.n in
    simp to_z-of_z

pub returns-clause-bound : goal.returns-clause-bound
returns-clause-bound c =
    let fits = product-fits c.args.a c.args.n c.requires.left c.requires.right in
    let f = c.ranges.a in
    let g = c.ranges.n in
    simp to_z-of_z (product-below c.args.a c.args.n c.requires.left c.requires.right)
