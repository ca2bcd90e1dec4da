use Rattle.std.proofs.Common.{rules}
use Rattle.std.proofs.lemmas.List.Sorted.{answers_always}
use Rattle.tx_prims.specs.Rows.{is_before}
use Rattle.tx_prims.specs.Keys.{text_of}
use Rattle.tx_prims.proofs.Searches.{rising-answer}
use Rattle.tx_prims.proofs.are_rising.Goals as goal

pub returns : goal.returns
returns g c =
    rising-answer c.args.rows.now c.is_sorted_by.result
    (c.is_sorted_by.ensures.cases (λ x y. is_before (text_of x.key) (text_of y.key)) (answers_always _ _ _ (λ f a r g h. search rules)))
