use Rattle.std.proofs.Common.{◌∷◌, sym, subst}
use Rattle.tx_private.specs.Quantities.{byte_first}
use Rattle.tx_assign.specs.Refusals.{led, number_of}
use Rattle.std.specs.Prelude.{◌≡◌}
use Rattle.tx_frames.specs.declared.value.Item.TheVariants as item
use Rattle.tx_frames.specs.Values.{item_in}
use Rattle.tx_frames.proofs.numbers.number_given.Goals as goal

pub returns-in-Amount : goal.returns-in-Amount
returns-in-Amount c view further items w =
    subst (λ v. byte_first (number_of c.args.error) further (item_in view (item.Given v) ∷ items) w ≡ led c.integer_given.result (λ n. further n items w) w) (sym c.in-Amount.is) (c.integer_given.ensures view further items w)
