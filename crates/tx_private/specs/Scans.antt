-- Readings that scan: what they make of the tokens and quantities that they are given.
use Rattle.std.specs.Prelude.{ℕ, ℤ, pos, Bool, true, false, List, [], ◌∷◌, ◌++◌, take, reverse, Option, Some, None, if◌then◌else◌}
use Rattle.std.specs.List.{flat_map}
use Rattle.std.specs.Option.{option_to_list}
use Rattle.tx_model.specs.declared.category.Cat.TheVariants as cat
use Rattle.tx_model.specs.Tokens.{Token, Char, Name, Active, Param, Stop}
use Rattle.tx_tok.specs.declared.tok.Tok.{Tok}
use Rattle.tx_tok.specs.declared.tok.Tok.TheVariants as tok
use Rattle.tx_num.specs.declared.quantities.Want.{Want}
use Rattle.tx_num.specs.declared.quantities.Want.TheVariants as want
use Rattle.tx_quant.specs.Items as quantities
use Rattle.tx_private.specs.Errors.{plain}
use Rattle.tx_private.specs.Meanings.{Meaning, Character}
use Rattle.tx_private.specs.World.{World, Command, put_in_front}
use Rattle.tx_private.specs.Readings.{Kind, Expanded, QuantityFrom, Value, Unexpandable, TextEnd, Amount, Item, Tok as Taken, End, Given, Move, Take, Sub, Done, Bad}

-- to a reading that scans, all names are alike
abbrev pub scanned_token : Token → Tok
scanned_token (Char c b) = tok.Char c b
scanned_token (Name text) = tok.Name 0
scanned_token (Active b) = tok.Active b
scanned_token (Param n) = tok.Param n
scanned_token Stop = tok.Stop

-- what means a space is one
abbrev pub scanned_command : Meaning → Token → Tok
scanned_command (Character cat.Space b) t = tok.Char cat.Space 32
scanned_command _ t = scanned_token t

-- the code of a character, or of a name of one byte
abbrev pub letter_of : Token → Option ℕ
letter_of (Char c b) = Some b
letter_of (Active b) = Some b
letter_of (Name (b ∷ [])) = Some b
letter_of _ = None

-- an item, as the scan has it
abbrev pub scanned_item : Item → quantities.Item
scanned_item (Taken command) = quantities.Letter (letter_of command.token)
scanned_item End = quantities.Letter None
scanned_item (Given (Unexpandable command)) = quantities.Token (scanned_command command.meaning command.token)
scanned_item (Given _) = quantities.Token tok.Stop

-- the token of an item, if it is one
abbrev pub token_of : Item → Option Token
token_of (Taken command) = Some command.token
token_of (Given (Unexpandable command)) = Some command.token
token_of _ = None

-- so many of the last of these, the latest first, are put back
abbrev pub put_back : ℕ → List (Option Token) → World → World
put_back n taken w = put_in_front (flat_map option_to_list (reverse (take n taken))) w

-- the wish for an item, by how it is to be taken
abbrev pub wish : Want → World → Move
wish want.Expanded w = Sub Expanded w
wish want.Start w = Sub Expanded w
wish want.Plain w = Take w
wish (want.Factor kind) w = Sub Expanded w

-- what a scan does after all its items
abbrev pub scan_ends : {V : Type 0} → (V → Value) → List (Option Token) → World → quantities.Move V → Move
scan_ends value taken w (quantities.Asks how back) = wish how (put_back back taken w)
scan_ends value taken w (quantities.Gives v back) = Done (value v) (put_back back taken w)
scan_ends value taken w (quantities.Fails error) = Bad (record { number = error; shown = [] }) w

-- a quantity may begin where the scan says so
abbrev pub may_start : {V : Type 0} → quantities.Move V → Bool
may_start (quantities.Asks want.Start back) = true
may_start _ = false

-- the command with which a quantity begins, if the item is one
abbrev pub starting : (Meaning → Bool) → Bool → Item → Option Command
starting begins true (Given (Unexpandable command)) = if begins command.meaning then Some command else None
starting begins _ item = None

abbrev pub by_start : Option Command → (Command → Move) → Move → Move
by_start (Some command) quantity other = quantity command
by_start None quantity other = other

-- A scan that was fed so much, of which these tokens were taken, the latest first. A command with which a
-- quantity begins is followed by the quantity.
abbrev pub scan_from : {V : Type 0} → (Meaning → Bool) → quantities.Reading V → (V → Value) → List quantities.Item → List (Option Token) → Option Command → List Item → World → Move
scan_from begins reading value fed taken None [] w = scan_ends value taken w (reading fed)
scan_from begins reading value fed taken (Some command) [] w = Sub (QuantityFrom command) w
scan_from begins reading value fed taken (Some command) (Given (Amount q) ∷ items) w =
    scan_from begins reading value (fed ++ quantities.Quantity q ∷ []) taken None items w
scan_from begins reading value fed taken (Some command) (item ∷ items) w = Bad (plain 63) w
scan_from begins reading value fed taken None (item ∷ items) w =
    by_start (starting begins (may_start (reading fed)) item)
    (λ command. scan_from begins reading value fed taken (Some command) items w)
    (scan_from begins reading value (fed ++ scanned_item item ∷ []) (token_of item ∷ taken) None items w)

abbrev pub scan : {V : Type 0} → (Meaning → Bool) → quantities.Reading V → (V → Value) → List Item → World → Move
scan begins reading value items w = scan_from begins reading value [] [] None items w
