-- What an item makes of a stage of a reading.
use Rattle.std.specs.Prelude.{◌≡◌, List, ◌∷◌}
use Rattle.tx_quant.specs.declared.next.Next.{Next}
use Rattle.tx_quant.specs.declared.next.Next.TheVariants as next
use Rattle.tx_quant.specs.Items.{Item, Gives, Fails, Reading, GoesOn}

-- it is what the reading `old` says of that item, where `says` tells what a stage says of later items
abbrev pub Follows : {S V : Type 0} → (S → Reading V) → Next S V → Reading V → Item → Type 0
Follows says (next.More stage back) old item = GoesOn old item (says stage) back
Follows says (next.Done v back) old item = (items : List Item) → old (item ∷ items) ≡ Gives v back
Follows says (next.Bad error) old item = (items : List Item) → old (item ∷ items) ≡ Fails error
