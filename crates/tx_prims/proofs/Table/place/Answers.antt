use Rattle.std.proofs.Common.{rules, sym}
use Rattle.std.proofs.lemmas.Fn.{always_returns_same}
use Rattle.std.specs.Ordering.{nat_cmp}
use Rattle.std.specs.Cmp.Lexicographic.{slice_cmp}
use Rattle.tx_prims.specs.Keys.{text_of}
use Rattle.tx_prims.proofs.Searches.{place_of-found, place_of-not_found, rising_of_lawful}
use Rattle.tx_prims.proofs.Table.place.Goals as goal

pub returns-in-Ok-clause-place : goal.returns-in-Ok-clause-place
returns-in-Ok-clause-place g c =
    sym (place_of-found c.args.self.now.rows.now c.in-Ok.place c.args.key.now (search (rules, rising_of_lawful)) c.in-Ok.ensures.bound
    (c.in-Ok.ensures.position (λ row. slice_cmp nat_cmp (text_of row.key) c.args.key.now) (always_returns_same _ _ _ (λ a r g h. search rules))))

pub returns-in-Err-clause-place : goal.returns-in-Err-clause-place
returns-in-Err-clause-place g c =
    sym (place_of-not_found c.args.self.now.rows.now c.in-Err.field-0 c.args.key.now (search (rules, rising_of_lawful))
    (c.in-Err.ensures.position (λ row. slice_cmp nat_cmp (text_of row.key) c.args.key.now) (always_returns_same _ _ _ (λ a r g h. search rules))))
