-- Open readings, one within another, and how a region ends from there.
use Rattle.std.specs.Prelude.{◌≡◌, ℕ, ◌+◌, List, [], ◌∷◌, ◌++◌, Some}
use Rattle.tx_private.specs.World.{World}
use Rattle.tx_private.specs.Readings.{Kind, Item, Given, Move}
use Rattle.tx_private.specs.Moves.{move_in}
use Rattle.tx_private.specs.Reads.{Result, Gave, Failed, Spent, Reads, follow, reads, counts}
use Rattle.tx_private.specs.Region.{State, outcome_of, left_by}

-- An open reading: its kind, and what it says of the items to come, whatever world they come in.
pub record Open : Type 0 where
  pub kind : Kind
  pub says : Item → List Item → World → Move

-- a reading of this kind that was given nothing
abbrev pub begun : Kind → Open
begun kind = record { kind = kind; says = λ item later w. move_in kind (item ∷ later) w }

-- an open reading that was given an item more
abbrev pub given : Open → Item → Open
given o item = record { kind = o.kind; says = λ next later w. o.says item (next ∷ later) w }

-- an open reading was given these items
abbrev pub Stands : Open → List Item → Type 0
Stands o items = (item : Item) (later : List Item) (w : World) → move_in o.kind (items ++ item ∷ later) w ≡ o.says item later w

-- how many of these readings count
abbrev pub depth_of : List Open → ℕ
depth_of [] = 0
depth_of (o ∷ outer) = depth_of outer + counts o.kind

-- a reading that was given these items ends so after this move
pub record Follows (k : Kind) (items : List Item) (m : Move) (r : Result) : Type 0 where
  pub moves : ℕ
  pub ends : follow (reads moves) k items m ≡ Some r

-- two results of a region tell the same: the outcome, and the state that is left
pub record TellsSame (s r : Result) : Type 0 where
  pub outcome : outcome_of s ≡ outcome_of r
  pub left : (state : State) → left_by state s ≡ left_by state r

-- Where the innermost reading ends so, those around it come to what this result tells.
abbrev pub Then : List Open → Result → Result → Type 0
Then [] s r = TellsSame s r
Then (o ∷ outer) (Gave value w) r =
    (items : List Item) → Stands (given o (Given value)) items
    → (s : Result) × Follows o.kind items (o.says (Given value) [] (record w { depth = depth_of (o ∷ outer) })) s × Then outer s r
Then (o ∷ outer) (Failed f) r = Failed f ≡ r
Then (o ∷ outer) (Spent output) r = Spent output ≡ r

-- With this move of the innermost reading, it and those around it come to this.
abbrev pub Comes : Open → List Open → Move → Result → Type 0
Comes o outer m r = (items : List Item) → Stands o items → (s : Result) × Follows o.kind items m s × Then outer s r

-- with an item more
abbrev pub ComesGiven : Open → Item → List Open → World → Result → Type 0
ComesGiven o item outer w r = Comes (given o item) outer (o.says item [] w) r

-- two open readings say the same
pub record SaysSame (o p : Open) : Type 0 where
  pub kind : o.kind ≡ p.kind
  pub says : (item : Item) (later : List Item) (w : World) → o.says item later w ≡ p.says item later w

-- what a reading comes to from its beginning, where none is around it, is how it ends
abbrev pub ComesToEnd : Kind → World → Result → Type 0
ComesToEnd k w r = Comes (begun k) [] (move_in k [] w) r → (s : Result) × Reads k [] w s × TellsSame s r
