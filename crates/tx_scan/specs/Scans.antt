-- What the scanner's answers say.
use Rattle.std.specs.Prelude.{◌≡◌, ℕ, ◌<◌, ◌≤◌, ◌^◌, List, [], ◌∷◌, ◌++◌, length, drop, Option, Some, None, slice_index_or}
use Rattle.std.specs.Option.{option_to_list}
use Rattle.tx_model.specs.declared.category.Cat.{Cat}
use Rattle.tx_model.specs.declared.category.Cat.TheVariants as cat
use Rattle.tx_model.specs.declared.category.LineState.{LineState}
use Rattle.tx_model.specs.declared.category.LineState.TheVariants.{NewLine}
use Rattle.tx_model.specs.Lines.{lines_of}
use Rattle.tx_model.specs.Tokens as token
use Rattle.tx_model.specs.Scanner.{Rest, Run, Found, Finds, LineUsed, Stops, Scanned, Gives, Used, Halts, token_at}
use Rattle.tx_scan.specs.declared.cats.Cats.{Cats}
use Rattle.tx_scan.specs.declared.notation.Front.{Front}
use Rattle.tx_scan.specs.declared.line.Left.{Left}
use Rattle.tx_scan.specs.declared.line.Scan.{Scan}
use Rattle.tx_scan.specs.declared.line.Scan.TheVariants as scan
use Rattle.tx_scan.specs.declared.line.InLine.{InLine}
use Rattle.tx_scan.specs.declared.line.InLine.TheVariants as in_line
use Rattle.tx_scan.specs.declared.line.NameRun.{NameRun}
use Rattle.tx_scan.specs.declared.later.InLines.{InLines}
use Rattle.tx_scan.specs.declared.later.InLines.TheVariants as in_lines

-- the category of a byte
abbrev pub category_by : Cats → ℕ → Cat
category_by cats b = slice_index_or cats.0 b cat.Other

abbrev pub par : List ℕ
par = 112 ∷ 97 ∷ 114 ∷ []

-- a line from a byte on, which stands for those before its place
abbrev pub from_front : List ℕ → Front → List ℕ
from_front line front = front.byte ∷ drop front.behind line

-- the same, where there is such a byte
abbrev pub from_found : List ℕ → Option Front → Option (List ℕ)
from_found line None = None
from_found line (Some front) = Some (from_front line front)

-- a front, if there is one, is behind this place of the line
abbrev pub GoesOn : List ℕ → ℕ → Option Front → Type 0
GoesOn line at None = Unit {0}
GoesOn line at (Some front) = (at < front.behind) × (front.behind ≤ length line)

-- these bytes are those of the line from that front on, or none
abbrev pub Begins : List ℕ → List ℕ → Option Front → Type 0
Begins bytes line None = bytes ≡ []
Begins bytes line (Some front) = bytes ≡ from_front line front

-- this stands in the line where that front gives something
abbrev pub GivenAt : Found → (ℕ → Cat) → LineState → List ℕ → Option Front → Type 0
GivenAt found cats state line None = found ≡ LineUsed
GivenAt found cats state line (Some front) = found ≡ token_at cats state (cats front.byte) front.byte (drop front.behind line)

-- the bytes that are left of a line
abbrev pub rest_of : List ℕ → Left → List ℕ
rest_of line left = option_to_list left.front ++ drop left.from line

-- they have a place in the line
abbrev pub Fits : List ℕ → Left → Type 0
Fits line left = (length (option_to_list left.front) ≤ left.from) × (left.from ≤ length line)

-- this is what stands in the line, with the state and the bytes after it
abbrev pub Tells : Found → Scan → LineState → List ℕ → Type 0
Tells found (scan.Char c b) state rest = found ≡ Finds (token.Char c b) state rest
Tells found (scan.NameText text) state rest = found ≡ Finds (token.Name text) state rest
Tells found (scan.Active b) state rest = found ≡ Finds (token.Active b) state rest
Tells found scan.Par state rest = found ≡ Finds (token.Name par) state rest
Tells found scan.Invalid state rest = found ≡ Stops state rest
Tells found scan.End state rest = ⊥
Tells found scan.Memory state rest = ⊥

-- What the plain reading tells: this stands in the line, with the state and the bytes after it, or nothing.
abbrev pub IsPlain : Found → Option (Scan × LineState × List ℕ) → Type 0
IsPlain found None = found ≡ LineUsed
IsPlain found (Some next) = Tells found next.0 next.1 next.2

-- what stands in a line
abbrev pub LooksInto : Found → List ℕ → InLine → Type 0
LooksInto found line (in_line.Found what state left) = Fits line left × Tells found what state (rest_of line left)
LooksInto found line in_line.Used = found ≡ LineUsed
LooksInto found line in_line.Memory = Unit {0}

-- a name that begins with this byte, before this run of letters
abbrev pub IsName : ℕ → Run → List ℕ → NameRun → Type 0
IsName first run line name = (name.text ≡ first ∷ run.letters) × Fits line name.left × (rest_of line name.left ≡ run.behind)

-- this stands next in a text, and then this rest
abbrev pub TellsNext : Scanned → Scan → Rest → Type 0
TellsNext next (scan.Char c b) rest = next ≡ Gives (token.Char c b) rest
TellsNext next (scan.NameText text) rest = next ≡ Gives (token.Name text) rest
TellsNext next (scan.Active b) rest = next ≡ Gives (token.Active b) rest
TellsNext next scan.Par rest = next ≡ Gives (token.Name par) rest
TellsNext next scan.Invalid rest = next ≡ Halts rest
TellsNext next scan.End rest = next ≡ Used rest
TellsNext next scan.Memory rest = ⊥

-- After a call of next: this stood next, and this is the rest. Want of memory changes nothing.
abbrev pub AfterNext : Scanned → Rest → Scan → Rest → Type 0
AfterNext next old scan.Memory new = new ≡ old
AfterNext next old what new = TellsNext next what new

-- what stands in the later lines of a text, whose bytes these are
abbrev pub LooksIntoLines : Scanned → List ℕ → InLines → Type 0
LooksIntoLines next later (in_lines.Found what begun) =
    (begun.used ≤ length later) × (begun.read ≤ length begun.line) × (begun.number < 2 ^ 31)
    × TellsNext next what (record { unread = drop begun.read begun.line; later = lines_of (drop begun.used later); number = begun.number; state = begun.state })
LooksIntoLines next later (in_lines.Used number) =
    (number < 2 ^ 31) × (next ≡ Used (record { unread = []; later = []; number = number; state = NewLine }))
LooksIntoLines next later in_lines.Memory = Unit {0}
