-- Tokens that are put back.
use Rattle.std.specs.Prelude.{◌≡◌, ℕ, ◌-◌, List, [], ◌∷◌, ◌++◌, length, drop, Option}
use Rattle.std.specs.List.{flat_map}
use Rattle.std.specs.Option.{option_to_list}
use Rattle.tx_tok.specs.declared.tok.Tok.{Tok}
use Rattle.tx_num.specs.declared.quantities.Feed.{Feed}
use Rattle.tx_num.specs.declared.quantities.Feed.TheVariants as feed
use Rattle.tx_amounts.specs.declared.amount.Amount.{Amount}
use Rattle.tx_amounts.specs.declared.amount.Scanned.{Scanned}
use Rattle.tx_amounts.specs.declared.amount.Scanned.TheVariants as scanned

-- those that are tokens; the others are ends of the text
abbrev pub given : List (Option Tok) → List Tok
given taken = flat_map option_to_list taken

-- those of the last so many that are tokens
abbrev pub last_given : ℕ → List (Option Tok) → List Tok
last_given back taken = given (drop (length taken - back) taken)

-- The answer of a scan of which these tokens were taken, where its automaton answers so.
abbrev pub scanned_of : Feed Amount → List (Option Tok) → Scanned
scanned_of (feed.More back) taken = scanned.More (last_given back taken)
scanned_of (feed.Done amount back) taken = scanned.Done amount (last_given back taken)
scanned_of (feed.Bad error) taken = scanned.Bad error
scanned_of feed.Memory taken = scanned.Memory

-- Memory may be wanting instead.
abbrev pub IsAnswer : Scanned → Feed Amount → List (Option Tok) → Type 0
IsAnswer scanned.Memory answer taken = Unit {0}
IsAnswer result answer taken = result ≡ scanned_of answer taken

-- a token more was taken, or memory is wanting and nothing is said
abbrev pub IsNoted : Scanned → List (Option Tok) → Option Tok → List (Option Tok) → Type 0
IsNoted scanned.Memory old token new = Unit {0}
IsNoted result old token new = new ≡ old ++ token ∷ []
