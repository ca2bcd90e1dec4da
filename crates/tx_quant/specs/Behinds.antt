-- Readings that others go on from.
use Rattle.std.specs.Prelude.{◌≡◌, ℕ, List, [], ◌∷◌}
use Rattle.tx_quant.specs.declared.next.Next.{Next}
use Rattle.tx_quant.specs.declared.next.Next.TheVariants as next
use Rattle.tx_quant.specs.Items.{Item, Move, Asks, Gives, Fails, Reading, GoesOn, putting_back}

-- a value, and the items behind it
pub record Behind (V : Type 0) : Type 0 where
  pub value : V
  pub items : List Item

-- it ends with this value, these items stand behind it, and so many of the last tokens are put back
abbrev pub gives_before : {V : Type 0} → List Item → V → ℕ → Move (Behind V)
gives_before items v back = Gives (record { value = v; items = items }) back

-- a reading, and what `next` makes of its value, of how many tokens are put back, and of what is behind
abbrev pub and_then : {V W : Type 0} → Move (Behind V) → (V → ℕ → Reading W) → Move W
and_then (Asks want back) next = Asks want back
and_then (Gives b back) next = next b.value back b.items
and_then (Fails error) next = Fails error

-- so many tokens are put back before a reading begins
abbrev pub after_putting_back : {V : Type 0} → ℕ → Reading V → Reading V
after_putting_back back reading [] = putting_back back (reading [])
after_putting_back back reading (item ∷ items) = reading (item ∷ items)

-- a stage follows from the reading `old` at that item, as in Follows, and a value stands before what comes later
abbrev pub Leads : {S V : Type 0} → (S → Reading (Behind V)) → Next S V → Reading (Behind V) → Item → Type 0
Leads says (next.More stage back) old item = GoesOn old item (says stage) back
Leads says (next.Done v back) old item = (items : List Item) → old (item ∷ items) ≡ gives_before items v back
Leads says (next.Bad error) old item = (items : List Item) → old (item ∷ items) ≡ Fails error
