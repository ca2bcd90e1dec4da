-- What a scan says of the items to come.
use Rattle.std.specs.Prelude.{◌≡◌, ℕ, false, List, [], ◌∷◌, map, reverse, Option, Some, None}
use Rattle.std.specs.Option.{option_map}
use Rattle.tx_model.specs.Tokens.{Token}
use Rattle.tx_tok.specs.declared.tok.Tok.{Tok}
use Rattle.tx_num.specs.declared.quantities.Quant.{Quant}
use Rattle.tx_views.specs.declared.sense.Sense.{Sense}
use Rattle.tx_views.specs.Views.{View, viewed, all_viewed}
use Rattle.tx_views.specs.Meanings.{sense_in}
use Rattle.tx_private.specs.Meanings.{Meaning}
use Rattle.tx_private.specs.World.{World, Command, put_in_front}
use Rattle.tx_private.specs.Readings.{Expanded, QuantityFrom, Unexpandable, Amount, Item, Tok as Taken, End, Given, Move, Take, Sub, Done, Bad}
use Rattle.tx_private.specs.Scans.{scan_from, letter_of}
use Rattle.tx_amounts.specs.declared.amount.ScanWish.{ScanWish}
use Rattle.tx_amounts.specs.declared.amount.ScanWish.TheVariants as wish
use Rattle.tx_amounts.specs.declared.amount.Scanned.{Scanned}
use Rattle.tx_amounts.specs.declared.amount.Scanned.TheVariants as scanned
use Rattle.tx_amounts.specs.declared.begun.Begun.{Begun}
use Rattle.tx_amounts.specs.declared.scan.Scan.{Scan}
use Rattle.tx_amounts.specs.Automata.{reading, begins, amount_in, wish_at}

-- the command that a token and its meaning are
abbrev pub command_of : View → Tok → Sense → Command
command_of view t sense = record { token = viewed view t; marked = false; meaning = sense_in view sense }

-- the command with which a quantity begins
abbrev pub command_in : View → Begun → Command
command_in view begun = command_of view begun.token begun.sense

-- the tokens that were taken, the latest first
abbrev pub taken_in : View → List (Option Tok) → List (Option Token)
taken_in view taken = reverse (map (option_map (viewed view)) taken)

-- what a scan says of the items to come
abbrev pub says : View → Scan → List Item → World → Move
says view scan items w =
    scan_from (begins scan.automaton) (reading scan.automaton) amount_in [] (taken_in view scan.taken.items) (option_map (command_in view) scan.begun) items w

-- the token, with its meaning, with which a quantity began
abbrev pub started : Option Begun → Option (Tok × Sense)
started None = None
started (Some begun) = Some (begun.token, begun.sense)

-- a quantity comes first, where one has begun
abbrev pub wish_behind : Option Begun → ScanWish → ScanWish
wish_behind None how = how
wish_behind (Some begun) how = wish.Quantity

-- how the next item is to be taken
abbrev pub wish_of : Scan → ScanWish
wish_of scan = wish_behind scan.begun (wish_at (reading scan.automaton []))

-- the wish for an item
abbrev pub wished : Option Command → ScanWish → World → Move
wished (Some command) how w = Sub (QuantityFrom command) w
wished None wish.Plain w = Take w
wished None _ w = Sub Expanded w

-- what a scan does now
abbrev pub wish_move : View → Scan → World → Move
wish_move view scan w = wished (option_map (command_in view) scan.begun) (wish_of scan) w

-- A scan goes on as another after an item, and these tokens are put in front. The new scan says of all later
-- items what the old one says of them behind this one.
pub record GoesOn (view : View) (old : Scan) (item : Item) (new : Scan) (back : List Tok) : Type 0 where
  pub now : (w : World) → says view old (item ∷ []) w ≡ wish_move view new (put_in_front (all_viewed view back) w)
  pub later : (next : Item) (items : List Item) (w : World) → says view old (item ∷ next ∷ items) w ≡ says view new (next ∷ items) w

-- an answer is what the old scan says of the item
abbrev pub Tells : View → Scanned → Scan → Item → Scan → Type 0
Tells view (scanned.More back) old item new = GoesOn view old item new back
Tells view (scanned.Done amount back) old item new =
    (w : World) → says view old (item ∷ []) w ≡ Done (amount_in amount) (put_in_front (all_viewed view back) w)
Tells view (scanned.Bad error) old item new =
    (w : World) → says view old (item ∷ []) w ≡ Bad (record { number = error; shown = [] }) w
Tells view scanned.Memory old item new = Unit {0}

-- an expanded token as an item, a quantity, and a token as it stands or the text's end
abbrev pub token_item : View → Tok → Sense → Item
token_item view t sense = Given (Unexpandable (command_of view t sense))

abbrev pub quantity_item : Quant → Item
quantity_item q = Given (Amount q)

abbrev pub plain_item : View → Meaning → Option Tok → Item
plain_item view meaning None = End
plain_item view meaning (Some t) = Taken (record { token = viewed view t; marked = false; meaning = meaning })

-- the code of a token as it stands, where it has one
abbrev pub letter_in : View → Option Tok → Option ℕ
letter_in view None = None
letter_in view (Some t) = letter_of (viewed view t)

-- how a wish asks for an item
abbrev pub WishesFor : ScanWish → World → Move → Type 0
WishesFor wish.Expanded w move = move ≡ Sub Expanded w
WishesFor wish.Plain w move = move ≡ Take w
WishesFor wish.Quantity w move = (command : Command) × (move ≡ Sub (QuantityFrom command) w)
