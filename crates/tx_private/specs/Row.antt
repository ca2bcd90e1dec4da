-- What the definitions compute for a text, as the first line and the log of the reply.
use Rattle.std.specs.Prelude.{ℕ, zero, suc, false, is_some, List, [], ◌∷◌, ◌++◌, ◌≡◌, Some, length}
use Rattle.std.specs.Option.{option_map}
use Rattle.tx_model.specs.Replies.{header, status_word}
use Rattle.tx_prims.specs.Primitives.{primitive_named}
use Rattle.tx_private.specs.Start.{bare_map}
use Rattle.tx_private.specs.Region.{Outcome, State, outcome_in}

abbrev pub shown : Outcome → List ℕ
shown o = header (status_word o.status) o.steps o.pages (length o.dvi) (length o.log) ++ o.dvi ++ o.log

-- the state BARE: of its format's names only the primitives' are known, and the session has no others
abbrev pub bare : State
bare = record { map = bare_map; frozen = λ text. is_some (primitive_named text); names = [] }

-- so many moves one after another are enough for the reply with these bytes
abbrev pub ComesIn : (moves : ℕ) (text : List ℕ) (reply : List ℕ) → Type 0
ComesIn moves text reply = option_map shown (outcome_in moves bare false text 1000) ≡ Some reply

-- three hundred are
abbrev pub Comes : (text : List ℕ) (reply : List ℕ) → Type 0
Comes text reply = ComesIn 300 text reply

-- the same bytes so many times
abbrev pub repeated : ℕ → List ℕ → List ℕ
repeated zero bytes = []
repeated (suc n) bytes = bytes ++ repeated n bytes
