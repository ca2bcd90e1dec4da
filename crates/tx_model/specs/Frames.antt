-- What a session's input is: frames, one after another; and where an input breaks that.
use Rattle.std.specs.Prelude.{◌≡◌, ℕ, ◌+◌, ◌≤◌, ◌<◌, List, [], ◌∷◌, ◌++◌, length, take}
use Rattle.std.specs.List.{flat_map, AllByRecursion}
use Rattle.std.specs.Fmt.{decimal}
use lib.Chars.{codes}
use Rattle.tx_model.specs.Bytes.{newline, blank}

-- what a client asks for: to run a text with a budget of steps
pub record Request : Type 0 where
  pub budget : ℕ
  pub text : List ℕ

pub record IsLawful (r : Request) : Type 0 where
  pub some_steps : 1 ≤ r.budget
  pub few_steps : r.budget ≤ 10000000
  pub short : length r.text ≤ 1048576

-- a frame: REGION, the budget and the text's length in decimal digits, byte 10, and the text
abbrev pub frame : Request → List ℕ
frame r = codes "REGION " ++ decimal r.budget ++ blank ∷ [] ++ decimal (length r.text) ++ newline ∷ [] ++ r.text

-- the line that ends a session
abbrev pub bye : List ℕ
bye = codes "BYE" ++ newline ∷ []

-- how the frames of an input end
pub data InputEnd : Type 0 where
  -- with its bytes
  ByBytes : InputEnd
  -- with the line BYE, whatever follows
  ByBye : InputEnd

abbrev pub EndsSo : List ℕ → InputEnd → Type 0
EndsSo rest ByBytes = rest ≡ []
EndsSo rest ByBye = (unread : List ℕ) × (rest ≡ bye ++ unread)

-- the input is the frames of these requests, which are lawful, and then ends so
pub record IsInput (input : List ℕ) (requests : List Request) (ending : InputEnd) : Type 0 where
  pub lawful : AllByRecursion IsLawful requests
  pub rest : List ℕ
  pub frames : input ≡ flat_map frame requests ++ rest
  pub ends : EndsSo rest ending

-- an input that keeps the grammar
abbrev pub IsLawfulInput : List ℕ → Type 0
IsLawfulInput input = (requests : List Request) × (ending : InputEnd) × IsInput input requests ending

-- some lawful input begins with these bytes
abbrev pub CanGoOn : List ℕ → Type 0
CanGoOn bytes = (more : List ℕ) × IsLawfulInput (bytes ++ more)

-- An input breaks the grammar at this place: that of the first byte such that no lawful input begins with
-- the bytes up to and with it, or its end, where it ends inside a frame.
pub record BreaksAt (input : List ℕ) (place : ℕ) : Type 0 where
  pub within : place ≤ length input
  pub before : CanGoOn (take place input)
  pub at_byte : place < length input → CanGoOn (take (place + 1) input) → ⊥
  pub at_end : place ≡ length input → IsLawfulInput input → ⊥
