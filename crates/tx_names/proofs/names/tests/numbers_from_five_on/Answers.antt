use Rattle.std.proofs.Common.{sym, ◌∙◌, [], ◌∷◌}
use Rattle.tx_names.proofs.TextLemmas.{at_number}
use Rattle.tx_names.proofs.names.tests.numbers_from_five_on.Goals as goal

pub text-requires : goal.text-requires
text-requires g c =
    let found = sym c.find-2.ensures ∙ c.in_ok-number.ensures.ok_part in
    (at_number _ (112 ∷ 97 ∷ 114 ∷ []) _ found).0
